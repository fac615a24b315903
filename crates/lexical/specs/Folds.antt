-- [FWS]: what is left behind it.
use Rattle.std.specs.Prelude.{◌≡◌, ℕ, ◌≤◌, Bool, List, [], ◌∷◌, length, Some, None, ◌==◌, refl}
use Rattle.std.proofs.Common.{⊎_elim, sym, ap, subst, ◌∙◌, arith}
use Rattle.std.proofs.lemmas.Bool.{cond-true}
use Rattle.fields.specs.Classes.{wsp, behind}
use Rattle.fields.specs.Scans.{fold_start}
use Rattle.fields.proofs.Folding.{fold_at}
use Rattle.abnf.specs.Abnf.{plus, opt, At}
use Rattle.abnf.specs.Turns.{Left}
use Rattle.abnf.proofs.Operators.{seq_in, seq_out, opt_none, opt_some, opt_out, byte_in, byte_out, one_in, one_out, Many, no_more, one_more, many_in, many_out}
use Rattle.abnf.proofs.Runs.{Off, behind_shorter, behind_sound, behind_stays, behind_complete}
use Rattle.lexical.specs.Rfc5322.{WSP, FWS}
use Rattle.lexical.specs.Reads.{unfolded, fws}

unfolded_shorter : (m : List ℕ) (o : Left) → fold_start m ≡ o → length (unfolded o m) ≤ length m
unfolded_shorter m None e = omega arith
unfolded_shorter m (Some line) e = let f = fold_at m line e in omega (arith, ap length f.end_is, behind_shorter wsp line)

pub fws_shorter : (s : List ℕ) → length (fws s) ≤ length s
fws_shorter s = omega (arith, behind_shorter wsp s, unfolded_shorter (behind wsp s) (fold_start (behind wsp s)) refl)

-- ---- what is left stands behind an [FWS]
plain : {s m : List ℕ} → Many WSP s m → At (opt FWS) s m
plain no_more = opt_none
plain (one_more a r) = opt_some (seq_in opt_none (seq_in a (many_in r)))

unfolded_sound : (s m : List ℕ) → Many WSP s m → (o : Left) → fold_start m ≡ o → At (opt FWS) s (unfolded o m)
unfolded_sound s m h None e = plain h
unfolded_sound s m h (Some line) e =
    let f = fold_at m line e in
    let crlf = seq_in (byte_in refl) (byte_in refl) in
    opt_some (seq_in (opt_some (seq_in (many_in (subst (λ l. Many WSP s l) f.end_is h)) crlf)) (seq_in (one_in f.is_white) (many_in (behind_sound wsp line))))

pub fws_sound : (s : List ℕ) → At (opt FWS) s (fws s)
fws_sound s = unfolded_sound s (behind wsp s) (behind_sound wsp s) (fold_start (behind wsp s)) refl

-- ---- and as far as white space goes
abbrev pub is_cr : ℕ → Bool
is_cr b = b == 13

no_fold : (t : List ℕ) → Off is_cr t → fold_start t ≡ None
no_fold [] h = refl
no_fold (a ∷ []) h = refl
no_fold (a ∷ b ∷ []) h = refl
no_fold (a ∷ b ∷ c ∷ u) h = rw h refl

fold_taken : {m t : List ℕ} → At (plus WSP) m t → unfolded (fold_start (13 ∷ 10 ∷ m)) (13 ∷ 10 ∷ m) ≡ behind wsp m
fold_taken {m} {t} h =
    let p = seq_out h in
    let d = one_out p.1 in
    let r = p.0 in
    let here : fold_start (13 ∷ 10 ∷ d.0 ∷ r) ≡ Some r = cond-true (wsp d.0) (Some r) None d.2 in
    ap (λ l. unfolded (fold_start (13 ∷ 10 ∷ l)) (13 ∷ 10 ∷ l)) d.1
    ∙ ap (λ o. unfolded o (13 ∷ 10 ∷ d.0 ∷ r)) here
    ∙ sym (ap (behind wsp) d.1 ∙ cond-true (wsp d.0) (behind wsp r) (d.0 ∷ r) d.2)

fws_stays : (t : List ℕ) → Off wsp t → Off is_cr t → (s : List ℕ) → behind wsp s ≡ t → fws s ≡ t
fws_stays t w r s here = ap (λ l. unfolded (fold_start l) l) here ∙ ap (λ o. unfolded o t) (no_fold t r)

pub fws_complete : (s t : List ℕ) → At (opt FWS) s t → Off wsp t → Off is_cr t → fws s ≡ t
fws_complete s t h w r = ⊎_elim
    (λ e. fws_stays t w r s (ap (behind wsp) e ∙ behind_stays wsp t w))
    (λ f.
    let p = seq_out f in
    let one = seq_out p.2 in
    let all : Many WSP p.0 t = one_more one.1 (many_out one.2) in
    ⊎_elim
    (λ e. fws_stays t w r s (ap (behind wsp) e ∙ behind_complete wsp all w))
    (λ g.
    let q = seq_out g in
    let z = seq_out q.2 in
    let cut : q.0 ≡ 13 ∷ 10 ∷ p.0 = byte_out z.1 ∙ ap (λ l. 13 ∷ l) (byte_out z.2) in
    let here : behind wsp s ≡ 13 ∷ 10 ∷ p.0 = behind_complete wsp (subst (λ l. Many WSP s l) cut (many_out q.1)) refl in
    ap (λ l. unfolded (fold_start l) l) here ∙ fold_taken p.2 ∙ behind_complete wsp all w)
    (opt_out p.1))
    (opt_out h)
