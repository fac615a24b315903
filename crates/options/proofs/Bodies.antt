-- The whole body, exactly as the RFC has it.
use Rattle.std.proofs.Common.{◌≡◌, ℕ, ◌≤◌, Bool, true, ◌||◌, List, [], length, get_or, Some, Option, sym, refl, ap, ◌∙◌, subst}
use Rattle.std.proofs.lemmas.Option.{same_Some}
use mathlib.Core.Bool.{or_assoc}
use Rattle.std.specs.Option.{option_map}
use Rattle.fields.specs.Clean.{clean}
use Rattle.fields.proofs.Patterns.{tail}
use Rattle.abnf.specs.Abnf.{At}
use Rattle.abnf.specs.Exact.{Exactly}
use Rattle.abnf.specs.Turns.{bind}
use Rattle.abnf.proofs.Operators.{opt_none, whole_in, whole_out}
use Rattle.abnf.proofs.Turns.{bind_some, mapped_some}
use Rattle.options.specs.Rfc8098.{Series, Parameter, disposition_notification_parameter, options_body}
use Rattle.options.specs.declared.importance.Importance.{Importance}
use Rattle.options.specs.Reads.{Read, filled, series_of, parameter_of, options_of, is_required, any_required, some_required, mark_of}
use Rattle.options.proofs.Listing.{Telling, Asking, retelling, asking_next, series_sound, series_complete}
use Rattle.options.proofs.Words.{filled_some}
use Rattle.options.proofs.Parameters.{EndsParameter, parameter_sound, parameter_short, parameter_complete, parameter_mark}

pub options_sound : (s : List ℕ) (ps : Series Parameter) → options_of s ≡ Some ps → options_body ps s
options_sound s ps e =
    let r = bind_some (series_of 59 parameter_of s) _ ps e in
    let f = filled_some r.0.told ps r.0.rest r.2 in
    subst (λ z. options_body z s) f.1 (whole_out (subst (λ l. At (options_body r.0.told) s l) f.0 (series_sound 59 parameter_of disposition_notification_parameter parameter_sound s r.0 r.1)))

pub options_complete : (s : List ℕ) → clean s ≡ true → (ps : Series Parameter) → options_body ps s → options_of s ≡ Some ps
options_complete s c ps h =
    ap (λ o. bind o (λ r. filled r.told r.rest))
    (series_complete 59 parameter_of disposition_notification_parameter EndsParameter (λ u. (((refl, refl, refl), refl), refl)) parameter_short parameter_complete s [] [] ps c (whole_in h) opt_none ((tt, tt), tt) tt)

pub options_exact : (s : List ℕ) (r : Option Bool) → r ≡ option_map some_required (options_of s) → clean s ≡ true → Exactly options_body some_required s r
options_exact s r e c = record {
  derived = λ y q. let x = mapped_some some_required (options_of s) y (sym e ∙ q) in (x.0, options_sound s x.0 x.1, sym x.2);
  answered = λ x h. e ∙ ap (option_map some_required) (options_complete s c x h);
  alone = λ x y h k. same_Some _ _ (sym (options_complete s c x h) ∙ options_complete s c y k);
}

-- ---- the loop over the parameters
abbrev pub asked : Bool → Read (List Parameter) → Option Bool
asked r ps = filled (r || any_required ps.told) ps.rest

abbrev pub required_in : List ℕ → Option Bool
required_in s = option_map some_required (options_of s)

-- from the parameter on that `from` begins with, where `r` is so of those before it
abbrev pub Listed : Bool → List ℕ → List ℕ → Type 0
Listed r from s = Asking 59 parameter_of (asked r) (parameter_of from) (required_in s)

pub parameter_shorter : (from : List ℕ) (m : Read Importance) → Some m ≡ parameter_mark from → length m.rest ≤ length from
parameter_shorter from m e =
    let p = mapped_some mark_of (parameter_of from) m (sym e) in
    subst (λ (z : Read Importance). length z.rest ≤ length from) p.2 (parameter_short from p.0 p.1)

pub listed_next : (s from : List ℕ) (r b : Bool) → Listed r from s → (m : Read Importance) → Some m ≡ parameter_mark from → b ≡ is_required m.told → 1 ≤ length m.rest → get_or m.rest 0 0 ≡ 59 → Listed (r || b) (tail 1 m.rest) s
listed_next s from r b g m e q h semicolon =
    let p = mapped_some mark_of (parameter_of from) m (sym e) in
    let told : Telling 59 parameter_of (asked (r || is_required p.0.told.importance)) p.0.rest (required_in s) = retelling (λ xs. ap (λ a. filled a xs.rest) (or_assoc r (is_required p.0.told.importance) (any_required xs.told)))
    (subst (λ o. Asking 59 parameter_of (asked r) o (required_in s)) p.1 g) in
    let behind : Telling 59 parameter_of (asked (r || is_required m.told)) m.rest (required_in s) = subst (λ (z : Read Importance). Telling 59 parameter_of (asked (r || is_required z.told)) z.rest (required_in s)) p.2 told in
    subst (λ x. Listed (r || x) (tail 1 m.rest) s) (sym q) (asking_next 59 parameter_of (asked (r || is_required m.told)) (required_in s) parameter_short m.rest behind h semicolon)
