-- Where a body is clean, what [CFWS] leaves of it begins with neither white space nor a fold nor a comment.
use Rattle.std.proofs.Common.{◌≡◌, ℕ, zero, suc, true, false, not, eqb, List, [], ◌∷◌, length, Some, None, refl, ap, subst, ⊎_elim}
use Rattle.std.proofs.lemmas.Bool.{cond_both, cases_Bool, and_parts, both_ways, eqb-true}
use Rattle.std.proofs.lemmas.Option.{none-some, same_Some}
use Rattle.fields.specs.Classes.{wsp, starts, behind}
use Rattle.fields.specs.Clean.{is_CR, no_blank, clean}
use Rattle.fields.specs.Scans.{fold_start}
use Rattle.fields.proofs.Folding.{fold_at}
use Rattle.abnf.specs.Classes.{text}
use Rattle.abnf.specs.Turns.{Left, bind, turns}
use Rattle.abnf.proofs.Operators.{many_in}
use Rattle.abnf.proofs.Runs.{Off, behind_sound, behind_off}
use Rattle.abnf.proofs.Turns.{bind_some}
use Rattle.lexical.specs.Rfc5322.{deepest}
use Rattle.lexical.specs.Reads.{unfolded, fws, comment_rest, comments, cfws}
use Rattle.lexical.specs.Exact.{Apart}
use Rattle.lexical.specs.Folds.{fws_sound}
use Rattle.lexical.specs.Comments.{comment_inner}
use Rattle.lexical.proofs.Merging.{clean_rest}
use Rattle.texts.specs.Reads.{is_text}
use Rattle.texts.proofs.Folded.{text_stop}

-- behind [FWS]
record Unfolded (t : List ℕ) : Type 0 where
  off_white : Off wsp t
  no_fold : fold_start t ≡ None

clean_fold : (b : ℕ) (line : List ℕ) → clean (13 ∷ 10 ∷ b ∷ line) ≡ true → starts is_CR (behind wsp line) ≡ true → ⊥
unfolding clean
clean_fold b line c e = both_ways (no_blank (13 ∷ 10 ∷ b ∷ line)) (ap not e) (and_parts (no_blank (13 ∷ 10 ∷ b ∷ line)) (clean (10 ∷ b ∷ line)) c).0

-- a fold behind white space is none, or leads to a line that goes on
unfolded_stops : (m : List ℕ) → clean m ≡ true → Off wsp m → (o : Left) → fold_start m ≡ o → Unfolded (unfolded o m)
unfolded_stops m c w None e = record { off_white = w; no_fold = e }
unfolded_stops m c w (Some line) e = record { off_white = behind_off wsp line; no_fold = go (fold_start (behind wsp line)) refl }
  where
    go : (o : Left) → fold_start (behind wsp line) ≡ o → fold_start (behind wsp line) ≡ None
    go None q = q
    go (Some v) q =
        let f = fold_at m line e in
        absurd (clean_fold f.white line (subst (λ l. clean l ≡ true) f.end_is c) (ap (starts is_CR) (fold_at (behind wsp line) v q).end_is))

fws_stops : (s : List ℕ) → clean s ≡ true → Unfolded (fws s)
fws_stops s c = unfolded_stops (behind wsp s) (clean_rest (many_in (behind_sound wsp s)) c) (behind_off wsp s) (fold_start (behind wsp s)) refl

-- behind [CFWS]
record Stopped (t : List ℕ) : Type 0 where
  unfolded : Unfolded t
  off_comment : Off (λ b. eqb b 40) t

comments_stop : (k : ℕ) (s t : List ℕ) → clean s ≡ true → Unfolded s → turns comments k s ≡ Some t → Stopped t
comments_stop zero s t c u e = absurd (none-some _ e)
comments_stop (suc k) [] t c u e = subst Stopped (same_Some _ _ e) (record { unfolded = u; off_comment = tt })
comments_stop (suc k) (b ∷ s) t c u e =
    let on : List ℕ → Left = λ v. turns comments k (fws v) in
    cond_both (eqb b 40) (bind (comment_rest deepest s) on) (Some (b ∷ s)) (λ o. o ≡ Some t → Stopped t)
    (λ h q.
    let v = bind_some (comment_rest deepest s) on t q in
    let tidy : clean v.0 ≡ true = clean_rest ((comment_inner deepest).sound s v.0 v.1) (subst (λ n. clean (n ∷ s) ≡ true) (eqb-true b 40 h) c) in
    comments_stop k (fws v.0) t (clean_rest (fws_sound v.0) tidy) (fws_stops v.0 tidy) v.2)
    (λ h q. subst Stopped (same_Some _ _ q) (record { unfolded = u; off_comment = h }))
    e

-- so text there stands apart
pub text_apart : (s t : List ℕ) → clean s ≡ true → cfws s ≡ Some t → is_text t ≡ true → Apart t
unfolding cfws
text_apart s t c e = go t (comments_stop (suc (length (fws s))) (fws s) t (clean_rest (fws_sound s) c) (fws_stops s c) e)
  where
    go : (t : List ℕ) → Stopped t → is_text t ≡ true → Apart t
    go [] h q = tt
    go (b ∷ t) h q =
        let no-cr : eqb b 13 ≡ false = ⊎_elim
        (λ y. let cr = eqb-true b 13 y in absurd (both_ways (is_text (b ∷ t)) (text_stop b t (ap text cr) h.unfolded.no_fold) q))
        (λ n. n)
        (cases_Bool (eqb b 13)) in
        (h.unfolded.off_white, no-cr, h.off_comment)
