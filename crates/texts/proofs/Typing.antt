-- A body of the form type ";" text.
use Rattle.std.proofs.Common.{◌≡◌, ℕ, ◌+◌, ◌-◌, true, List, ◌∷◌, length, Some, None, Option, sym, refl, ap, ◌∙◌, subst, arith, length-append}
use Rattle.std.specs.Option.{option_map}
use Rattle.std.proofs.lemmas.Bool.{cond_both, cond-true}
use Rattle.std.proofs.lemmas.Option.{none-some, same_Some}
use Rattle.fields.specs.Clean.{clean}
use Rattle.fields.specs.Fields.{Placed}
use Rattle.abnf.specs.Abnf.{Rule, At}
use Rattle.abnf.specs.Classes.{atext, behind_byte, behind_some}
use Rattle.abnf.specs.Exact.{Exactly}
use Rattle.abnf.specs.Turns.{bind}
use Rattle.abnf.proofs.Operators.{seq_in, seq_out, byte_out, sized_in, sized_out, whole_in, whole_out}
use Rattle.abnf.proofs.Runs.{Off, byte_sound, byte_complete}
use Rattle.abnf.proofs.Turns.{bind_some}
use Rattle.abnf.proofs.Exactness.{exactly}
use Rattle.lexical.specs.Reads.{cfws}
use Rattle.lexical.specs.Spans.{Token, within_of, token_of}
use Rattle.lexical.specs.Exact.{Apart}
use Rattle.lexical.specs.Comments.{cfws_sound, cfws_complete}
use Rattle.lexical.specs.Tokens.{Reads, token_steps, token_found, placed_in, placed_out, some_reads}
use Rattle.lexical.proofs.Merging.{clean_rest}
use Rattle.texts.specs.Rfc8098.{Typed, address_type, text_to_end, typed_text}
use Rattle.texts.specs.Reads.{is_text, trim, text_in, typed_of}
use Rattle.texts.specs.Seen.{moved_typed}
use Rattle.texts.proofs.Trimming.{text_sound, text_complete}
use Rattle.texts.proofs.Stopping.{text_apart}

-- how much stands before what is left
size : {A : Rule} {s t : List ℕ} (a : At A s t) → length a.phrase ≡ length s - length t
size {A} {s} {t} a = let e : length s ≡ length a.phrase + length t = ap length a.is ∙ length-append a.phrase t in omega arith

-- ---- the text
pub text_in_sound : (s w : List ℕ) (x : Placed) → (is_text w ≡ true → Apart w) → text_in s w ≡ Some x → (length s - length w ≡ x.at) × text_to_end x.bytes w
text_in_sound s w x apart e =
    let P : Placed → Type 0 = λ y. (length s - length w ≡ y.at) × text_to_end y.bytes w in
    cond_both (is_text w) (Some (record { at = length s - length w; bytes = trim w })) None (λ o. o ≡ Some x → P x)
    (λ h q. subst P (same_Some _ _ q) (refl, text_sound w (apart h) h))
    (λ _ q. absurd (none-some _ q))
    e

pub text_in_complete : (s w : List ℕ) (x : Placed) → length s - length w ≡ x.at → text_to_end x.bytes w → text_in s w ≡ Some x
text_in_complete s w x e h =
    let z = text_complete w x.bytes h in
    cond-true (is_text w) _ None z.0
    ∙ ap (λ n. Some (record { at = n; bytes = trim w })) e
    ∙ ap (λ l. Some (record { at = x.at; bytes = l })) z.1

-- ---- the type and the text
type_reads : Reads (behind_some atext) address_type atext
type_reads = some_reads atext refl refl refl refl

typed_sound : (s : List ℕ) → clean s ≡ true → (t : Typed) → typed_of s ≡ Some t → typed_text t s
unfolding typed_of
typed_sound s c t e =
    let a = bind_some (token_of (behind_some atext) s) _ t e in
    let b = bind_some (behind_byte 59 a.0.rest) _ t a.2 in
    let d = bind_some (cfws b.0) _ t b.2 in
    let f = bind_some (text_in s d.0) _ t d.2 in
    let kind = placed_in (token_steps type_reads s a.0 a.1) in
    let sign = byte_sound 59 a.0.rest b.0 b.1 in
    let front = seq_in kind (seq_in sign (cfws_sound b.0 d.0 d.1)) in
    let x = text_in_sound s d.0 f.0 (text_apart b.0 d.0 (clean_rest sign (clean_rest kind c)) d.1) f.1 in
    subst (λ (z : Typed). typed_text z s) (same_Some _ _ f.2) (whole_out (seq_in (sized_in front (size front ∙ x.0)) (whole_in {A = text_to_end f.0.bytes} x.1)))

typed_complete : (s : List ℕ) (t : Typed) → typed_text t s → typed_of s ≡ Some t
unfolding typed_of
typed_complete s t h =
    let p = seq_out (whole_in {A = typed_text t} h) in
    let z = sized_out p.1 in
    let q = seq_out z.0 in
    let r = seq_out q.2 in
    let end = whole_out p.2 in
    let k = placed_out (behind_some atext) q.1 in
    let rest : k.0.rest ≡ 59 ∷ r.0 = k.3 ∙ byte_out r.1 in
    let made : Placed → Placed → Option Typed = λ u v. Some (record { kind = u; text = v }) in
    let on-text : Placed → List ℕ → Option Typed = λ u v. bind (text_in s v) (made u) in
    let on-rest : Placed → List ℕ → Option Typed = λ u v. bind (behind_byte 59 v) (λ m. bind (cfws m) (on-text u)) in
    let kind = within_of s k.0.text in
    ap (λ o. bind o (λ (n : Token). on-rest (within_of s n.text) n.rest)) (token_found type_reads s k.0 (subst Apart (sym rest) (refl, refl, refl)) (subst (Off atext) (sym rest) refl) k.1)
    ∙ ap (on-rest kind) k.3
    ∙ ap (λ o. bind o (λ m. bind (cfws m) (on-text kind))) (byte_complete 59 q.0 r.0 r.1)
    ∙ ap (λ o. bind o (on-text kind)) (cfws_complete r.0 p.0 end.0 r.2)
    ∙ ap (λ o. bind o (made kind)) (text_in_complete s p.0 t.text (sym (size z.0) ∙ z.1) end)
    ∙ ap (λ u. made u t.text) k.2

pub typed_exact : (at : ℕ) (s : List ℕ) (r : Option Typed) → r ≡ option_map (moved_typed at) (typed_of s) → clean s ≡ true → Exactly typed_text (moved_typed at) s r
typed_exact at s r e c = exactly typed_text (moved_typed at) s (typed_of s) r e (typed_sound s c) (typed_complete s)
