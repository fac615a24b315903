-- [CFWS] [CFWS] is a [CFWS], where no fold leads to a blank line.
use Rattle.std.proofs.Common.{◌≡◌, ℕ, true, false, not, List, [], ◌∷◌, ◌++◌, sym, refl, ap, ◌∙◌, subst, ⊎_elim}
use Rattle.std.proofs.lemmas.Bool.{and_parts, both_ways}
use Rattle.fields.specs.Classes.{wsp, starts, behind}
use Rattle.fields.specs.Clean.{is_CR, no_blank, clean}
use Rattle.abnf.specs.Abnf.{Rule, ◌⋅◌, ◌∕◌, star, opt, At}
use Rattle.abnf.proofs.Operators.{seq_in, seq_out, alt_left, alt_right, alt_out, opt_none, opt_some, opt_out, byte_out, one_out, Many, no_more, one_more, many_in, many_out, many_join, many_map}
use Rattle.abnf.proofs.Runs.{behind_complete}
use Rattle.lexical.specs.Rfc5322.{CRLF, WSP, FWS, deepest, comment, CFWS}
use Rattle.lexical.specs.Comments.{Mixed, mixed_in, mixed_out}

-- what is left of a clean body is clean
clean_behind : (u s : List ℕ) → clean (u ++ s) ≡ true → clean s ≡ true
unfolding clean
clean_behind [] s c = c
clean_behind (b ∷ u) s c = clean_behind u s (and_parts (no_blank (b ∷ u ++ s)) (clean (u ++ s)) c).1

pub clean_rest : {A : Rule} {s t : List ℕ} → At A s t → clean s ≡ true → clean t ≡ true
clean_rest {t = t} h c = clean_behind h.phrase t (subst (λ l. clean l ≡ true) h.is c)

clean_first : (a b d : ℕ) (s : List ℕ) → clean (a ∷ b ∷ d ∷ s) ≡ true → no_blank (a ∷ b ∷ d ∷ s) ≡ true
unfolding clean
clean_first a b d s c = (and_parts (no_blank (a ∷ b ∷ d ∷ s)) (clean (b ∷ d ∷ s)) c).0

-- the bits that white space is made of
abbrev pub Bit : Rule
Bit = WSP ∕ (CRLF ⋅ WSP) ∕ comment deepest

-- white space before an [FWS]
more_wsp : {s m u : List ℕ} → At WSP s m → At (opt FWS) m u → At (opt FWS) s u
more_wsp {s} {m} {u} a h = opt_some (⊎_elim
    (λ e. seq_in opt_none (seq_in (subst (λ l. At WSP s l) e a) (many_in no_more)))
    (λ f.
    let p = seq_out f in
    let one = seq_out p.2 in
    ⊎_elim
    (λ e. seq_in opt_none (seq_in (subst (λ l. At WSP s l) e a) (many_in (one_more one.1 (many_out one.2)))))
    (λ g. let q = seq_out g in seq_in (opt_some (seq_in (many_in (one_more a (many_out q.1))) q.2)) p.2)
    (opt_out p.1))
    (opt_out h))

-- a fold before an [FWS]
more_fold : {s m u : List ℕ} → clean s ≡ true → At (CRLF ⋅ WSP) s m → At (opt FWS) m u → At (opt FWS) s u
more_fold {s} {m} {u} c a h =
    let k = seq_out a in
    let first : At (opt (star WSP ⋅ CRLF)) s k.0 = opt_some (seq_in (many_in no_more) k.1) in
    opt_some (⊎_elim
    (λ e. seq_in first (seq_in (subst (λ l. At WSP k.0 l) e k.2) (many_in no_more)))
    (λ f.
    let p = seq_out f in
    let one = seq_out p.2 in
    ⊎_elim
    (λ e. seq_in first (seq_in (subst (λ l. At WSP k.0 l) e k.2) (many_in (one_more one.1 (many_out one.2)))))
    (λ g.
    let q = seq_out g in
    let z = seq_out q.2 in
    let cr = seq_out k.1 in
    let b = one_out k.2 in
    let cut : s ≡ 13 ∷ 10 ∷ b.0 ∷ m = byte_out cr.1 ∙ ap (λ l. 13 ∷ l) (byte_out cr.2) ∙ ap (λ l. 13 ∷ 10 ∷ l) b.1 in
    let here : behind wsp m ≡ 13 ∷ z.0 = behind_complete wsp (subst (λ l. Many WSP m l) (byte_out z.1) (many_out q.1)) refl in
    let blank : no_blank (13 ∷ 10 ∷ b.0 ∷ m) ≡ false = ap (λ l. not (starts is_CR l)) here in
    absurd (both_ways (no_blank (13 ∷ 10 ∷ b.0 ∷ m)) blank (clean_first 13 10 b.0 m (subst (λ l. clean l ≡ true) cut c))))
    (opt_out p.1))
    (opt_out h))

-- more at the front of *([FWS] comment) [FWS]
ahead : {s m t : List ℕ} → ((u : List ℕ) → At (opt FWS) m u → At (opt FWS) s u) → At Mixed m t → At Mixed s t
ahead {s} {m} {t} f h = let p = seq_out h in go p.0 (many_out p.1) p.2
  where
    go : (x : List ℕ) → Many (opt FWS ⋅ comment deepest) m x → At (opt FWS) x t → At Mixed s t
    go x no_more o = seq_in (many_in no_more) (f t o)
    go x (one_more a r) o = let q = seq_out a in seq_in (many_in (one_more (seq_in (f q.0 q.1) q.2) r)) o

merge : {s t : List ℕ} → clean s ≡ true → Many Bit s t → At Mixed s t
merge c no_more = seq_in (many_in no_more) opt_none
merge c (one_more a r) =
    let rest = merge (clean_rest a c) r in
    ⊎_elim
    (λ w. ahead (λ u. more_wsp w) rest)
    (λ x. ⊎_elim
    (λ f. ahead (λ u. more_fold c f) rest)
    (λ k. let p = seq_out rest in seq_in (many_in (one_more (seq_in opt_none k) (many_out p.1))) p.2)
    (alt_out x))
    (alt_out a)

pub merged : {s t : List ℕ} → clean s ≡ true → Many Bit s t → At (opt CFWS) s t
merged c h = mixed_out (merge c h)

-- ---- white space, bit by bit
bit_wsp : {s t : List ℕ} → Many WSP s t → Many Bit s t
bit_wsp = many_map (λ u v a. one_more (alt_left a) no_more)

fws_some : {s t : List ℕ} → At FWS s t → Many Bit s t
fws_some {s} {t} h =
    let p = seq_out h in
    let one = seq_out p.2 in
    let rest = bit_wsp (many_out one.2) in
    ⊎_elim
    (λ e. subst (λ l. Many Bit l t) (sym e) (one_more (alt_left one.1) rest))
    (λ g. let q = seq_out g in many_join (bit_wsp (many_out q.1)) (one_more (alt_right (alt_left (seq_in q.2 one.1))) rest))
    (opt_out p.1)

pub fws_bits : {s t : List ℕ} → At (opt FWS) s t → Many Bit s t
fws_bits {s} {t} h = ⊎_elim (λ e. subst (λ l. Many Bit s l) e no_more) fws_some (opt_out h)

comment_bits : (u v : List ℕ) → At (opt FWS ⋅ comment deepest) u v → Many Bit u v
comment_bits u v a = let p = seq_out a in many_join (fws_bits p.1) (one_more (alt_right (alt_right p.2)) no_more)

pub cfws_bits : {s t : List ℕ} → At (opt CFWS) s t → Many Bit s t
cfws_bits h = let p = seq_out (mixed_in h) in many_join (many_map comment_bits (many_out p.1)) (fws_bits p.2)

-- ---- one [CFWS] of two
pub cfws_cfws : {s m t : List ℕ} → clean s ≡ true → At (opt CFWS) s m → At (opt CFWS) m t → At (opt CFWS) s t
cfws_cfws c a b = merged c (many_join (cfws_bits a) (cfws_bits b))

pub fws_cfws : {s m t : List ℕ} → clean s ≡ true → At (opt FWS) s m → At (opt CFWS) m t → At (opt CFWS) s t
fws_cfws c a b = merged c (many_join (fws_bits a) (cfws_bits b))

pub cfws_fws : {s m t : List ℕ} → clean s ≡ true → At (opt CFWS) s m → At (opt FWS) m t → At (opt CFWS) s t
cfws_fws c a b = merged c (many_join (cfws_bits a) (fws_bits b))
