-- One or more, parted by a byte: the loop over them, and the rule.
use Rattle.std.proofs.Common.{◌≡◌, ℕ, zero, suc, ◌<◌, ◌≤◌, true, eqb, List, [], ◌∷◌, length, get_or, Some, None, Option, sym, refl, ap, ◌∙◌, subst, arith}
use Rattle.std.specs.Option.{option_map}
use Rattle.std.proofs.lemmas.Bool.{cond_both, cond-true, cond-false, eqb-true, eq-eqb}
use Rattle.std.proofs.lemmas.Option.{none-some, same_Some}
use Rattle.fields.specs.Clean.{clean}
use Rattle.fields.proofs.Patterns.{tail, one_ahead}
use Rattle.abnf.specs.Abnf.{Rule, ◌⋅◌, opt, byte, each, At}
use Rattle.abnf.specs.Turns.{bind, turns, run}
use Rattle.abnf.proofs.Operators.{seq_in, seq_out, opt_none, byte_in, byte_out, empty_in, empty_out}
use Rattle.abnf.proofs.Runs.{Off}
use Rattle.abnf.proofs.Turns.{bind_some, mapped_some}
use Rattle.lexical.specs.Rfc5322.{FWS}
use Rattle.lexical.proofs.Merging.{clean_rest}
use Rattle.options.specs.Rfc8098.{Series, series}
use Rattle.options.specs.Reads.{Read, followed, onto, headed, more, series_of}
use Rattle.options.proofs.Optional.{bind_mapped, bind_same}

-- from `left` on, what is read and then asked for is still to be `whole`
pub record Telling {X Y : Type 0} (n : ℕ) (one : List ℕ → Option (Read X)) (ask : Read (List X) → Option Y) (left : List ℕ) (whole : Option Y) : Type 0 where
  pub fuel : ℕ
  pub enough : length left ≤ fuel
  pub same : bind (more n one (turns (more n one) fuel) left) ask ≡ whole

-- the same, where the first of them is read, or is not there
abbrev pub Asking : {X Y : Type 0} → ℕ → (List ℕ → Option (Read X)) → (Read (List X) → Option Y) → Option (Read X) → Option Y → Type 0
Asking n one ask None whole = None ≡ whole
Asking n one ask (Some x) whole = Telling n one (λ xs. ask (onto x.told xs)) x.rest whole

-- what is asked for, said in another way
pub retelling : {X Y : Type 0} {n : ℕ} {one : List ℕ → Option (Read X)} {ask other : Read (List X) → Option Y} {left : List ℕ} {whole : Option Y} → ((xs : Read (List X)) → other xs ≡ ask xs) → Telling n one ask left whole → Telling n one other left whole
retelling {n = n} {one = one} {ask = ask} {other = other} {left = left} h g = record { fuel = g.fuel; enough = g.enough; same = bind_same (more n one (turns (more n one) g.fuel) left) other ask h ∙ g.same }

module _ {X : Type 0} (n : ℕ) (one : List ℕ → Option (Read X)) where
  abbrev step : (List ℕ → Option (Read (List X))) → List ℕ → Option (Read (List X))
  step = more n one

  -- ---- the loop
  pub asking_first : {Y : Type 0} (ask : Read (Series X) → Option Y) (on : Read (List X) → Option Y) → ((x : X) (xs : Read (List X)) → on (onto x xs) ≡ ask (headed x xs)) → (s : List ℕ) → Asking n one on (one s) (bind (series_of n one s) ask)
  asking_first {Y} ask on h s = go (one s)
    where
      go : (o : Option (Read X)) → Asking n one on o (bind (bind o (followed headed (run step))) ask)
      go None = refl
      go (Some x) = retelling (h x.told) (record { fuel = length x.rest; enough = omega arith; same = sym (bind_mapped (headed x.told) (run step x.rest) ask) })

  module _ {Y : Type 0} (ask : Read (List X) → Option Y) (whole : Option Y) where
    pub asking_next : ((s : List ℕ) (x : Read X) → one s ≡ Some x → length x.rest ≤ length s) → (s : List ℕ) → Telling n one ask s whole → 1 ≤ length s → get_or s 0 0 ≡ n → Asking n one ask (one (tail 1 s)) whole
    asking_next short s g h parted =
        go (one (tail 1 s)) refl g.fuel (omega (arith, g.enough, ap length (one_ahead s h)))
        (sym (ap (λ r. bind r ask) (ap (step (turns step g.fuel)) (one_ahead s h) ∙ cond-true (eqb (get_or s 0 0) n) _ _ (eq-eqb _ _ parted))) ∙ g.same)
      where
        go : (o : Option (Read X)) → one (tail 1 s) ≡ o → (k : ℕ) → length (tail 1 s) < k → bind (bind o (followed onto (turns step k))) ask ≡ whole → Asking n one ask o whole
        go None q k less e = e
        go (Some x) q zero less e = absurd (omega arith)
        go (Some x) q (suc k) less e = record { fuel = k; enough = omega (arith, short (tail 1 s) x q); same = sym (bind_mapped (onto x.told) (turns step (suc k) x.rest) ask) ∙ e }

  -- ---- the rule
  module _ (A : X → Rule) where
    abbrev Next : X → Rule
    Next x = opt FWS ⋅ byte n ⋅ opt FWS ⋅ A x

    module _ (sound : (s : List ℕ) (x : Read X) → one s ≡ Some x → At (opt FWS ⋅ A x.told) s x.rest) where
      more_sound : (k : ℕ) (s : List ℕ) (xs : Read (List X)) → turns step k s ≡ Some xs → At (each Next xs.told) s xs.rest
      more_sound zero s xs e = absurd (none-some _ e)
      more_sound (suc k) [] xs e = subst (λ (z : Read (List X)). At (each Next z.told) [] z.rest) (same_Some _ _ e) empty_in
      more_sound (suc k) (b ∷ s) xs e =
          let P : Read (List X) → Type 0 = λ z. At (each Next z.told) (b ∷ s) z.rest in
          cond_both (eqb b n) (bind (one s) (followed onto (turns step k))) (Some (record { told = []; rest = b ∷ s })) (λ o. o ≡ Some xs → P xs)
          (λ h q.
          let x = bind_some (one s) _ xs q in
          let ys = mapped_some (onto x.0.told) (turns step k x.0.rest) xs x.2 in
          subst P ys.2 (seq_in (seq_in opt_none (seq_in (byte_in (eqb-true b n h)) (sound s x.0 x.1))) (more_sound k x.0.rest ys.0 ys.1)))
          (λ _ q. subst P (same_Some _ _ q) empty_in)
          e

      pub series_sound : (s : List ℕ) (r : Read (Series X)) → series_of n one s ≡ Some r → At (opt FWS ⋅ series n A r.told) s r.rest
      series_sound s r e =
          let x = bind_some (one s) _ r e in
          let xs = mapped_some (headed x.0.told) (run step x.0.rest) r x.2 in
          let p = seq_out (sound s x.0 x.1) in
          subst (λ (z : Read (Series X)). At (opt FWS ⋅ series n A z.told) s z.rest) xs.2
          (seq_in p.1 (seq_in p.2 (more_sound (suc (length x.0.rest)) x.0.rest xs.0 xs.1)))

    -- where only what stops them may stand behind each
    module _ (Stop : List ℕ → Type 0) (parts : (u : List ℕ) → Stop (n ∷ u)) (short : (s : List ℕ) (x : Read X) → one s ≡ Some x → length x.rest ≤ length s)
        (complete : (s m t : List ℕ) (x : X) → clean s ≡ true → At (opt FWS ⋅ A x) s m → At (opt FWS) m t → Stop t → one s ≡ Some (record { told = x; rest = t })) where
      -- from m on, behind white space, these are read up to t
      record ReadsOn (xs : List X) (m t : List ℕ) : Type 0 where
        next : List ℕ
        gap : At (opt FWS) m next
        stops : Stop next
        reads : (k : ℕ) → length next < k → turns step k next ≡ Some (record { told = xs; rest = t })

      over : (t : List ℕ) → Off (λ b. eqb b n) t → (k : ℕ) → length t < k → turns step k t ≡ Some (record { told = []; rest = t })
      over t h zero less = absurd (omega arith)
      over [] h (suc k) less = refl
      over (b ∷ t) h (suc k) less = cond-false (eqb b n) _ _ h

      on : (x : X) (xs : List X) (u v t : List ℕ) → one u ≡ Some (record { told = x; rest = v }) → ((k : ℕ) → length v < k → turns step k v ≡ Some (record { told = xs; rest = t })) → (k : ℕ) → length (n ∷ u) < k → turns step k (n ∷ u) ≡ Some (record { told = x ∷ xs; rest = t })
      on x xs u v t e h zero less = absurd (omega arith)
      on x xs u v t e h (suc k) less =
          cond-true (eqb n n) _ _ (eq-eqb n n refl)
          ∙ ap (λ o. bind o (followed onto (turns step k))) e
          ∙ ap (option_map (onto x)) (h k (omega (arith, short u (record { told = x; rest = v }) e)))

      reads_on : (xs : List X) (m u t : List ℕ) → clean m ≡ true → At (each Next xs) m u → At (opt FWS) u t → Stop t → Off (λ b. eqb b n) t → ReadsOn xs m t
      reads_on [] m u t c h g st o = record { next = t; gap = subst (λ l. At (opt FWS) l t) (sym (empty_out h)) g; stops = st; reads = over t o }
      reads_on (x ∷ xs) m u t c h g st o =
          let p = seq_out h in
          let q = seq_out p.1 in
          let z = seq_out q.2 in
          let r = reads_on xs p.0 u t (clean_rest p.1 c) p.2 g st o in
          let e = complete z.0 p.0 r.next x (clean_rest z.1 (clean_rest q.1 c)) z.2 r.gap r.stops in
          record { next = n ∷ z.0; gap = subst (λ l. At (opt FWS) m l) (byte_out z.1) q.1; stops = parts z.0; reads = on x xs z.0 r.next t e r.reads }

      pub series_complete : (s m t : List ℕ) (xs : Series X) → clean s ≡ true → At (opt FWS ⋅ series n A xs) s m → At (opt FWS) m t → Stop t → Off (λ b. eqb b n) t → series_of n one s ≡ Some (record { told = xs; rest = t })
      series_complete s m t xs c h g st o =
          let p = seq_out h in
          let q = seq_out p.2 in
          let r = reads_on xs.others q.0 m t (clean_rest q.1 (clean_rest p.1 c)) q.2 g st o in
          ap (λ o. bind o (followed headed (run step))) (complete s q.0 r.next xs.first c (seq_in p.1 q.1) r.gap r.stops)
          ∙ ap (option_map (headed xs.first)) (r.reads (suc (length r.next)) (omega arith))
