-- The readers answer what the rules derive.
use Rattle.std.proofs.Common.{◌≡◌, ℕ, zero, suc, ◌<◌, ◌≤◌, eqb, List, [], ◌∷◌, length, Some, None, Option, sym, refl, ap, ◌∙◌, subst, arith}
use Rattle.std.specs.Option.{option_map}
use Rattle.std.proofs.lemmas.Bool.{cond_both, eqb-true}
use Rattle.std.proofs.lemmas.Option.{none-some, same_Some}
use Rattle.abnf.specs.Abnf.{Rule, ◌⋅◌, byte, each, At}
use Rattle.abnf.specs.Classes.{behind_byte}
use Rattle.abnf.specs.Exact.{Exactly}
use Rattle.abnf.specs.Turns.{bind, turns}
use Rattle.abnf.proofs.Operators.{seq_in, seq_out, byte_in, byte_out, whole_in, whole_out, at_shorter}
use Rattle.abnf.proofs.Runs.{byte_sound, byte_complete}
use Rattle.abnf.proofs.Turns.{bind_some, mapped_some}
use Rattle.lexical.specs.Spans.{Token, text_of, token_of}
use Rattle.lexical.specs.Tokens.{token_steps, around_in, split, join}
use Rattle.mime.specs.Rfc2045.{Parameter, Content, token, parameter, content}
use Rattle.mime.specs.Reads.{token_rest, value_rest, Text, token_before, Read, parameter_of, parameters, parameters_of, content_of}
use Rattle.mime.specs.Tokens.{token_reads, value_reads, Beyond, around_complete}

-- ---- a token before a byte
module _ (n : ℕ) (s : List ℕ) where
  pub before_found : (a : Token) → token_of token_rest s ≡ Some a → (u : List ℕ) → behind_byte n a.rest ≡ Some u → token_before n s ≡ Some (record { text = text_of a.text; rest = u })
  unfolding token_before
  before_found a e u f = rw (e, f) refl

  before_sound : (k : Text) → token_before n s ≡ Some k → (m : List ℕ) × At (token k.text) s m × At (byte n) m k.rest
  unfolding token_before
  before_sound k e =
      let a = bind_some (token_of token_rest s) _ k e in
      let b = bind_some (behind_byte n a.0.rest) _ k a.2 in
      subst (λ (z : Text). (m : List ℕ) × At (token z.text) s m × At (byte n) m z.rest) (same_Some _ _ b.2)
      (a.0.rest, around_in (token_steps token_reads s a.0 a.1), byte_sound n a.0.rest b.0 b.1)

  before_complete : {x m t : List ℕ} → Beyond (n ∷ t) → At (token x) s m → At (byte n) m t → token_before n s ≡ Some (record { text = x; rest = t })
  before_complete {x} {m} {t} b h k =
      let z = around_complete token_reads (subst Beyond (sym (byte_out k)) b) h in
      before_found z.0 z.1 t (ap (behind_byte n) z.3 ∙ byte_complete n m t k) ∙ ap (λ y. Some (record { text = y; rest = t })) z.2

-- ---- a parameter
module _ (s : List ℕ) where
  pub parameter_found : (a : Text) → token_before 61 s ≡ Some a → (v : Token) → token_of value_rest a.rest ≡ Some v → parameter_of s ≡ Some (record { parameter = record { attribute = a.text; value = text_of v.text }; rest = v.rest })
  unfolding parameter_of
  parameter_found a e v f = rw (e, f) refl

  parameter_sound : (p : Read) → parameter_of s ≡ Some p → At (parameter p.parameter) s p.rest
  unfolding parameter_of
  parameter_sound p e =
      let a = bind_some (token_before 61 s) _ p e in
      let v = bind_some (token_of value_rest a.0.rest) _ p a.2 in
      let h = before_sound 61 s a.0 a.1 in
      subst (λ (z : Read). At (parameter z.parameter) s z.rest) (same_Some _ _ v.2)
      (seq_in h.1 (seq_in h.2 (split (around_in (token_steps value_reads a.0.rest v.0 v.1)))))

  pub parameter_shorter : (p : Read) → parameter_of s ≡ Some p → length p.rest ≤ length s
  parameter_shorter p e = at_shorter (parameter_sound p e)

  parameter_complete : (p : Parameter) {t : List ℕ} → Beyond t → At (parameter p) s t → parameter_of s ≡ Some (record { parameter = p; rest = t })
  parameter_complete p {t} b h =
      let q = seq_out h in
      let w = seq_out q.2 in
      let z = around_complete value_reads b (join w.2) in
      let a : List ℕ = p.attribute in
      parameter_found (record { text = a; rest = w.0 }) (before_complete 61 s ((refl, refl, refl), refl) q.1 w.1) z.0 z.1
      ∙ ap (λ y. Some (record { parameter = record { attribute = a; value = y }; rest = z.0.rest })) z.2
      ∙ ap (λ y. Some (record { parameter = p; rest = y })) z.3

-- ---- parameters up to the end
abbrev Rest : List Parameter → Rule
Rest = each (λ p. byte 59 ⋅ parameter p)

rest_none : At (Rest []) [] []
rest_none = record { phrase = []; is = refl; derived = refl }

rest_none_out : {s : List ℕ} → At (Rest []) s [] → s ≡ []
rest_none_out h = whole_out h

rest_more : (p : Parameter) (ps : List Parameter) {s u t : List ℕ} → At (byte 59) s u → At (parameter p) u t → At (Rest ps) t [] → At (Rest (p ∷ ps)) s []
rest_more p ps a b c = let h = seq_in (seq_in a b) c in record { phrase = h.phrase; is = h.is; derived = h.derived }

rest_more_out : (p : Parameter) (ps : List Parameter) {s : List ℕ} → At (Rest (p ∷ ps)) s [] → (u : List ℕ) × (t : List ℕ) × (s ≡ 59 ∷ u) × At (parameter p) u t × At (Rest ps) t []
rest_more_out p ps {s} h =
    let k : At ((byte 59 ⋅ parameter p) ⋅ Rest ps) s [] = record { phrase = h.phrase; is = h.is; derived = h.derived } in
    let q = seq_out k in
    let w = seq_out q.1 in
    (w.0, q.0, byte_out w.1, w.2, q.2)

rest_beyond : (ps : List Parameter) {s : List ℕ} → At (Rest ps) s [] → Beyond s
rest_beyond [] h = subst Beyond (sym (rest_none_out h)) (tt, tt)
rest_beyond (p ∷ ps) h = let z = rest_more_out p ps h in subst Beyond (sym z.2) ((refl, refl, refl), refl)

parameters_sound : (k : ℕ) (s : List ℕ) (ps : List Parameter) → turns parameters k s ≡ Some ps → At (Rest ps) s []
parameters_sound zero s ps e = absurd (none-some _ e)
parameters_sound (suc k) [] ps e = subst (λ l. At (Rest l) [] []) (same_Some _ _ e) rest_none
parameters_sound (suc k) (b ∷ s) ps e =
    let again : List ℕ → Option (List Parameter) = turns parameters k in
    let on : Read → Option (List Parameter) = λ p. option_map (λ qs. p.parameter ∷ qs) (again p.rest) in
    cond_both (eqb b 59) (bind (parameter_of s) on) None (λ o. o ≡ Some ps → At (Rest ps) (b ∷ s) [])
    (λ h q.
    let r = bind_some (parameter_of s) on ps q in
    let p = r.0 in
    let m = mapped_some (λ qs. p.parameter ∷ qs) (again p.rest) ps r.2 in
    subst (λ l. At (Rest l) (b ∷ s) []) m.2 (rest_more p.parameter m.0 (byte_in (eqb-true b 59 h)) (parameter_sound s p r.1) (parameters_sound k p.rest m.0 m.1)))
    (λ _ q. absurd (none-some _ q))
    e

parameters_complete : (k : ℕ) (ps : List Parameter) (s : List ℕ) → length s < k → At (Rest ps) s [] → turns parameters k s ≡ Some ps
parameters_complete zero ps s less h = absurd (omega arith)
parameters_complete (suc k) [] s less h = ap (parameters (turns parameters k)) (rest_none_out h)
parameters_complete (suc k) (p ∷ ps) s less h =
    let z = rest_more_out p ps h in
    let t = z.1 in
    let again : List ℕ → Option (List Parameter) = turns parameters k in
    ap (parameters again) z.2
    ∙ ap (λ o. bind o (λ q. option_map (λ qs. q.parameter ∷ qs) (again q.rest))) (parameter_complete z.0 p (rest_beyond ps z.4) z.3)
    ∙ ap (option_map (λ qs. p ∷ qs)) (parameters_complete k ps t (omega (arith, ap length z.2, at_shorter z.3)) z.4)

-- ---- the whole
module _ (s : List ℕ) where
  pub content_found : (a : Text) → token_before 47 s ≡ Some a → (b : Token) → token_of token_rest a.rest ≡ Some b → content_of s ≡ option_map (λ ps. record { type = a.text; subtype = text_of b.text; parameters = ps }) (parameters_of b.rest)
  unfolding content_of
  content_found a e b f = rw (e, f) refl

  content_sound : (c : Content) → content_of s ≡ Some c → content c s
  unfolding content_of parameters_of
  content_sound c e =
      let a = bind_some (token_before 47 s) _ c e in
      let b = bind_some (token_of token_rest a.0.rest) _ c a.2 in
      let m = mapped_some _ (parameters_of b.0.rest) c b.2 in
      let h = before_sound 47 s a.0 a.1 in
      subst (λ (z : Content). content z s) m.2
      (whole_out (seq_in h.1 (seq_in h.2 (seq_in (around_in (token_steps token_reads a.0.rest b.0 b.1)) (parameters_sound (suc (length b.0.rest)) b.0.rest m.0 m.1)))))

  content_complete : (c : Content) → content c s → content_of s ≡ Some c
  unfolding parameters_of
  content_complete c h =
      let q = seq_out (whole_in h) in
      let w = seq_out q.2 in
      let v = seq_out w.2 in
      let ps = c.parameters in
      let x : List ℕ = c.type in
      let z = around_complete token_reads (rest_beyond ps v.2) v.1 in
      content_found (record { text = x; rest = w.0 }) (before_complete 47 s ((refl, refl, refl), refl) q.1 w.1) z.0 z.1
      ∙ ap (option_map (λ l. record { type = x; subtype = text_of z.0.text; parameters = l })) (ap parameters_of z.3 ∙ parameters_complete (suc (length v.0)) ps v.0 (omega arith) v.2)
      ∙ ap (λ y. Some (record { type = x; subtype = y; parameters = ps })) z.2

  pub content_exact : {Y : Type 0} (f : Content → Y) (r : Option Y) → r ≡ option_map f (content_of s) → Exactly content f s r
  content_exact f r e = record {
    derived = λ y q. let m = mapped_some f (content_of s) y (sym e ∙ q) in (m.0, content_sound m.0 m.1, sym m.2);
    answered = λ c h. e ∙ ap (option_map f) (content_complete c h);
    alone = λ c d h k. same_Some _ _ (sym (content_complete c h) ∙ content_complete d k);
  }
