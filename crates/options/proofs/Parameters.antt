-- A parameter.
use Rattle.std.proofs.Common.{◌≡◌, ℕ, ◌≤◌, true, false, eqb, List, ◌++◌, length, Some, Option, sym, ap, ◌∙◌, subst}
use Rattle.std.specs.Option.{option_map}
use Rattle.fields.specs.Classes.{starts, front, behind}
use Rattle.fields.specs.Clean.{clean}
use Rattle.fields.proofs.Cutting.{parts_of, behind_is}
use Rattle.abnf.specs.Abnf.{◌⋅◌, opt, At}
use Rattle.abnf.specs.Turns.{bind}
use Rattle.abnf.proofs.Operators.{seq_in, seq_out, byte_out, the_out, whole_in, at_shorter}
use Rattle.abnf.proofs.Runs.{Off}
use Rattle.abnf.proofs.Turns.{bind_some, mapped_some}
use Rattle.lexical.specs.Rfc5322.{FWS}
use Rattle.lexical.specs.Reads.{fws}
use Rattle.lexical.specs.Spans.{ahead}
use Rattle.lexical.specs.Folds.{fws_sound}
use Rattle.lexical.proofs.Merging.{clean_rest}
use Rattle.lexical.specs.Tokens.{ahead_is}
use Rattle.options.specs.declared.importance.Importance.{Importance}
use Rattle.options.specs.Rfc8098.{Parameter, disposition_notification_parameter}
use Rattle.options.specs.Reads.{Read, Marking, marking, marking_of, no_comma, values_of, with_values, parameter_at, parameter_of, mark_of}
use Rattle.options.proofs.Words.{fws_to_atom}
use Rattle.options.proofs.Markings.{Marks, at_more, marking_sound, marking_complete, marks_plain}
use Rattle.options.proofs.Values.{Ends, Values, values_sound, values_complete}

-- ---- what stands before the first ",", and the values
abbrev marks_of : Parameter → Marking
marks_of p = marking p.attribute p.importance

parameter_in : (p : Parameter) {s c t : List ℕ} → At (Marks (marks_of p)) s c → At (Values p.values) c t → At (disposition_notification_parameter p) s t
parameter_in p m v =
    let a = seq_out m in
    let b = seq_out a.2 in
    let d = seq_out b.2 in
    let f = seq_out d.2 in
    let i = seq_out f.2 in
    seq_in a.1 (seq_in b.1 (seq_in d.1 (seq_in f.1 (seq_in i.1 (seq_in i.2 v)))))

parameter_out : (p : Parameter) {s t : List ℕ} → At (disposition_notification_parameter p) s t → (c : List ℕ) × At (Marks (marks_of p)) s c × At (Values p.values) c t
parameter_out p h =
    let a = seq_out h in
    let b = seq_out a.2 in
    let d = seq_out b.2 in
    let f = seq_out d.2 in
    let i = seq_out f.2 in
    let g = seq_out i.2 in
    (g.0, seq_in a.1 (seq_in b.1 (seq_in d.1 (seq_in f.1 (seq_in i.1 g.1)))), g.2)

-- ---- the rule
-- what may stand behind a parameter
abbrev pub EndsParameter : List ℕ → Type 0
EndsParameter t = Ends t × Off (λ b. eqb b 44) t

pub parameter_sound : (s : List ℕ) (p : Read Parameter) → parameter_of s ≡ Some p → At (opt FWS ⋅ disposition_notification_parameter p.told) s p.rest
unfolding parameter_of
parameter_sound s p e =
    let from = fws s in
    let to = behind no_comma from in
    let head = ahead from to in
    let m = bind_some (marking_of head) _ p e in
    let v = mapped_some (with_values m.0) (values_of to) p m.2 in
    let cut : from ≡ head ++ to = parts_of no_comma from ∙ ap (λ l. l ++ to) (sym (ahead_is from (front no_comma from) to (parts_of no_comma from))) in
    let marks : At (Marks m.0) from to = subst (λ l. At (Marks m.0) l to) (sym cut) (at_more to (marking_sound head m.0 m.1)) in
    subst (λ (z : Read Parameter). At (opt FWS ⋅ disposition_notification_parameter z.told) s z.rest) v.2
    (seq_in (fws_sound s) (parameter_in (with_values m.0 v.0).told marks (values_sound to v.0 v.1)))

pub parameter_short : (s : List ℕ) (p : Read Parameter) → parameter_of s ≡ Some p → length p.rest ≤ length s
parameter_short s p e = at_shorter (parameter_sound s p e)

pub parameter_complete : (s m t : List ℕ) (p : Parameter) → clean s ≡ true → At (opt FWS ⋅ disposition_notification_parameter p) s m → At (opt FWS) m t → EndsParameter t → parameter_of s ≡ Some (record { told = p; rest = t })
unfolding parameter_of
parameter_complete s m t p c h g ends =
    let a = seq_out h in
    let from = a.0 in
    let q = parameter_out p a.2 in
    let to = q.0 in
    let marks = q.1 in
    let head = marks.phrase in
    let here : fws s ≡ from = fws_to_atom a.1 (the_out (seq_out a.2).1).0 in
    let stop : starts no_comma to ≡ false = ap (starts no_comma) (byte_out (seq_out q.2).1) in
    let comma : behind no_comma from ≡ to = ap (behind no_comma) marks.is ∙ behind_is no_comma head to (marks_plain (marks_of p) head marks.derived) stop in
    ap (λ l. parameter_at l (behind no_comma l)) here
    ∙ ap (parameter_at from) comma
    ∙ ap (λ o. bind o (λ k. option_map (with_values k) (values_of to))) (ap marking_of (ahead_is from head to marks.is) ∙ marking_complete head (marks_of p) (whole_in marks.derived))
    ∙ ap (option_map (with_values (marks_of p))) (values_complete to m t p.values (clean_rest marks (clean_rest a.1 c)) q.2 g ends.0 ends.1)

-- ---- what the code keeps of it
abbrev pub parameter_mark : List ℕ → Option (Read Importance)
parameter_mark s = option_map mark_of (parameter_of s)
