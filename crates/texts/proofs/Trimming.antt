-- Texts without the blanks at their end.
use Rattle.std.proofs.Common.{◌≡◌, ℕ, ◌+◌, ◌-◌, ◌<◌, ◌≤◌, true, false, ◌&&◌, ◌||◌, eqb, List, [], ◌∷◌, ◌++◌, length, get_or, take, sym, refl, ap, ◌∙◌, subst, ⊎_elim, arith, take_all}
use mathlib.Core.Bool.{or-false}
use Rattle.std.proofs.lemmas.List.{take_more}
use Rattle.std.proofs.lemmas.Bool.{cond_both, cond-true, cond-false, and_parts, or_left, or_from, both_ways, eqb-true}
use Rattle.fields.specs.Classes.{wsp}
use Rattle.abnf.specs.Abnf.{star.done, star.more, one, At}
use Rattle.abnf.specs.Classes.{text}
use Rattle.abnf.proofs.Operators.{alt_left, alt_right, alt_out, one_in, one_out, differs, Many, no_more, one_more, many_in, many_out, many_join, many_map, whole_in, whole_out}
use Rattle.lexical.specs.Exact.{Apart}
use Rattle.texts.specs.Rfc8098.{generic_address, Ends, text_to_end}
use Rattle.texts.specs.Reads.{is_text, blank, glue, trim}
use Rattle.texts.proofs.Folded.{Piece, White, fold_in, fold_out, text_pieces, white_piece}

-- ---- from the end
last_of : (s : List ℕ) → 1 ≤ length s → s ≡ take (length s - 1) s ++ (get_or s (length s - 1) 0 ∷ [])
last_of s h =
    let n : length s - 1 + 1 ≡ length s = omega arith in
    sym (take_all (length s) s (omega arith)) ∙ ap (λ k. take k s) (sym n) ∙ take_more s (length s - 1) 0 (omega arith)

trim_last : (s : List ℕ) (b : ℕ) → blank b ≡ true → trim (s ++ (b ∷ [])) ≡ trim s
unfolding trim
trim_last [] b e = cond-true (blank b) [] (b ∷ []) e
trim_last (a ∷ s) b e = ap (glue a) (trim_last s b e)

trim_stop : (s : List ℕ) (b : ℕ) → blank b ≡ false → trim (s ++ (b ∷ [])) ≡ s ++ (b ∷ [])
unfolding trim
trim_stop [] b e = cond-false (blank b) [] (b ∷ []) e
trim_stop (a ∷ s) b e = ap (glue a) (trim_stop s b e) ∙ stuck s
  where
    stuck : (s : List ℕ) → glue a (s ++ (b ∷ [])) ≡ a ∷ (s ++ (b ∷ []))
    stuck [] = refl
    stuck (c ∷ s) = refl

pub trim_more : (s : List ℕ) → 1 ≤ length s → blank (get_or s (length s - 1) 0) ≡ true → trim s ≡ trim (take (length s - 1) s)
trim_more s h e = ap trim (last_of s h) ∙ trim_last (take (length s - 1) s) (get_or s (length s - 1) 0) e

pub trim_done : (s : List ℕ) → 1 ≤ length s → blank (get_or s (length s - 1) 0) ≡ false → trim s ≡ s
trim_done s h e = ap trim (last_of s h) ∙ trim_stop (take (length s - 1) s) (get_or s (length s - 1) 0) e ∙ sym (last_of s h)

pub trim_none : (s : List ℕ) → length s < 1 → trim s ≡ s
unfolding trim
trim_none [] h = refl
trim_none (a ∷ s) h = absurd (omega arith)

-- ---- what is trimmed off is white space and folds
blank_text : (b : ℕ) → text b ≡ true → blank b ≡ wsp b
blank_text b e = ap (λ v. wsp b || v) (or_from (eqb b 13) (eqb b 10) (differs text 13 b refl e) (differs text 10 b refl e)) ∙ or-false (wsp b)

record Parted (x w : List ℕ) : Type 0 where
  ends : Ends x
  pieces : Many Piece x []
  rest : List ℕ
  is : w ≡ x ++ rest
  white : Many White rest []

more_text : (b : ℕ) (x s : List ℕ) → text b ≡ true → Parted x s → Parted (glue b x) (b ∷ s)
more_text b [] s e p =
    cond_both (blank b) [] (b ∷ []) (λ l. Parted l (b ∷ s))
    (λ h. record { ends = tt; pieces = no_more; rest = b ∷ p.rest; is = ap (λ l. b ∷ l) p.is; white = one_more (alt_left (one_in (sym (blank_text b e) ∙ h))) p.white })
    (λ h. record { ends = sym (blank_text b e) ∙ h; pieces = one_more (alt_left (one_in e)) no_more; rest = p.rest; is = ap (λ l. b ∷ l) p.is; white = p.white })
more_text b (c ∷ x) s e p = record { ends = p.ends; pieces = one_more (alt_left (one_in e)) p.pieces; rest = p.rest; is = ap (λ l. b ∷ l) p.is; white = p.white }

wsp_blank : (b : ℕ) → wsp b ≡ true → glue b [] ≡ []
wsp_blank b e = cond-true (blank b) [] (b ∷ []) (or_left (wsp b) _ e)

more_fold : (b : ℕ) (x s : List ℕ) → wsp b ≡ true → Parted x s → Parted (glue 13 (glue 10 (glue b x))) (13 ∷ 10 ∷ b ∷ s)
more_fold b [] s e p =
    subst (λ l. Parted (glue 13 (glue 10 l)) (13 ∷ 10 ∷ b ∷ s)) (sym (wsp_blank b e))
    (record { ends = tt; pieces = no_more; rest = 13 ∷ 10 ∷ b ∷ p.rest; is = ap (λ l. 13 ∷ 10 ∷ b ∷ l) p.is; white = one_more (alt_right (fold_in e)) p.white })
more_fold b (c ∷ x) s e p = record { ends = p.ends; pieces = one_more (alt_right (fold_in e)) p.pieces; rest = p.rest; is = ap (λ l. 13 ∷ 10 ∷ b ∷ l) p.is; white = p.white }

parted : (w : List ℕ) → is_text w ≡ true → Parted (trim w) w
unfolding is_text trim
parted [] e = record { ends = tt; pieces = no_more; rest = []; is = refl; white = no_more }
parted (a ∷ []) e = more_text a [] [] e (parted [] refl)
parted (a ∷ b ∷ []) e = let h = and_parts (text a) (text b) e in more_text a (trim (b ∷ [])) (b ∷ []) h.0 (parted (b ∷ []) h.1)
parted (a ∷ b ∷ c ∷ s) e =
    let fold = (eqb a 13 && eqb b 10) && wsp c in
    cond_both (text a) (is_text (b ∷ c ∷ s)) (fold && is_text s) (λ v. v ≡ true → Parted (trim (a ∷ b ∷ c ∷ s)) (a ∷ b ∷ c ∷ s))
    (λ h q. more_text a (trim (b ∷ c ∷ s)) (b ∷ c ∷ s) h (parted (b ∷ c ∷ s) q))
    (λ _ q.
    let x = and_parts fold (is_text s) q in
    let y = and_parts (eqb a 13 && eqb b 10) (wsp c) x.0 in
    let z = and_parts (eqb a 13) (eqb b 10) y.0 in
    subst (λ n. Parted (trim (n ∷ b ∷ c ∷ s)) (n ∷ b ∷ c ∷ s)) (sym (eqb-true a 13 z.0))
    (subst (λ n. Parted (trim (13 ∷ n ∷ c ∷ s)) (13 ∷ n ∷ c ∷ s)) (sym (eqb-true b 10 z.1)) (more_fold c (trim s) s y.1 (parted s x.1))))
    e

pub text_sound : (w : List ℕ) → Apart w → is_text w ≡ true → text_to_end (trim w) w
text_sound w a e =
    let p = parted w e in
    (a, p.ends, (trim w, p.rest, p.is, (refl, whole_out (many_in p.pieces)), whole_out (many_in p.white)))

-- ---- and nothing else is
trim_white : {s t : List ℕ} → Many White s t → trim t ≡ [] → trim s ≡ []
unfolding trim
trim_white no_more e = e
trim_white (one_more {s} {m} {t} a r) e =
    let on = trim_white r e in
    ⊎_elim
    (λ w. let d = one_out w in ap trim d.1 ∙ ap (glue d.0) on ∙ wsp_blank d.0 d.2)
    (λ f. let d = fold_out f in ap trim d.1 ∙ ap (λ l. glue 13 (glue 10 (glue d.0 l))) on ∙ ap (λ l. glue 13 (glue 10 l)) (wsp_blank d.0 d.2))
    (alt_out a)

module _ (white : List ℕ) (e : trim white ≡ []) where
  keep_text : (b : ℕ) (x : List ℕ) → text b ≡ true → Ends (b ∷ x) → (Ends x → trim (x ++ white) ≡ x) → trim (b ∷ x ++ white) ≡ b ∷ x
  unfolding trim
  keep_text b [] t h ih = ap (glue b) e ∙ cond-false (blank b) [] (b ∷ []) (blank_text b t ∙ h)
  keep_text b (c ∷ x) t h ih = ap (glue b) (ih h)

  keep_fold : (b : ℕ) (x : List ℕ) → wsp b ≡ true → Ends (13 ∷ 10 ∷ b ∷ x) → (Ends x → trim (x ++ white) ≡ x) → trim (13 ∷ 10 ∷ b ∷ x ++ white) ≡ 13 ∷ 10 ∷ b ∷ x
  unfolding trim
  keep_fold b [] w h ih = absurd (both_ways (wsp b) h w)
  keep_fold b (c ∷ x) w h ih = ap (λ l. glue 13 (glue 10 (glue b l))) (ih h)

  keep : {x : List ℕ} → generic_address x → Ends x → trim (x ++ white) ≡ x
  keep done h = e
  keep (more {u} {v} {w} q a m) h =
      let ih : Ends v → trim (v ++ white) ≡ v = λ k. keep m k in
      ⊎_elim
      (λ o.
      let d = one_out o in
      let is : w ≡ d.0 ∷ v = q ∙ ap (λ l. l ++ v) d.1 in
      subst (λ l. trim (l ++ white) ≡ l) (sym is) (keep_text d.0 v d.2 (subst Ends is h) ih))
      (λ f.
      let d = fold_out f in
      let is : w ≡ 13 ∷ 10 ∷ d.0 ∷ v = q ∙ ap (λ l. l ++ v) d.1 in
      subst (λ l. trim (l ++ white) ≡ l) (sym is) (keep_fold d.0 v d.2 (subst Ends is h) ih))
      (alt_out {A = one text} (whole_in {A = Piece} a))

pub text_complete : (w x : List ℕ) → text_to_end x w → (is_text w ≡ true) × (trim w ≡ x)
unfolding is_text trim
text_complete w x h =
    let d = h.2 in
    let white : Many White d.1 [] = many_out (whole_in d.4) in
    let text : At generic_address w d.1 = record { phrase = d.0; is = d.2; derived = d.3.1 } in
    let same = d.3.0 in (
      text_pieces (many_join (many_out text) (many_map white_piece white)),
      ap trim (d.2 ∙ ap (λ l. l ++ d.1) same) ∙ keep d.1 (trim_white white refl) (subst generic_address same d.3.1) h.1,
    )
