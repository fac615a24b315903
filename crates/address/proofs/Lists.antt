-- Lists of mailboxes.
use Rattle.std.proofs.Common.{◌≡◌, ℕ, zero, suc, ◌+◌, ◌<◌, ◌≤◌, Bool, true, false, cond, eqb, leb, List, [], ◌∷◌, length, Some, None, Option, is_some, sym, refl, ap, ◌∙◌, subst, arith}
use Rattle.std.proofs.lemmas.Bool.{cond_both, cond-true, eqb-true, leb-true, le-leb}
use Rattle.std.proofs.lemmas.Option.{none-some, same_Some}
use Rattle.std.specs.Option.{unwrap_or}
use Rattle.fields.specs.Clean.{clean}
use Rattle.abnf.specs.Abnf.{Rule, ◌⋅◌, byte, each, nothing, At}
use Rattle.abnf.specs.Exact.{Exactly, itself}
use Rattle.abnf.specs.Classes.{behind_byte}
use Rattle.abnf.specs.Turns.{bind, turns, run}
use Rattle.abnf.proofs.Operators.{seq_in, seq_out, byte_in, byte_out, empty_in, empty_out, whole_in, whole_out}
use Rattle.abnf.proofs.Runs.{byte_sound}
use Rattle.abnf.proofs.Turns.{bind_some}
use Rattle.abnf.proofs.Exactness.{exactly, mapped_itself}
use Rattle.lexical.specs.Reads.{cfws}
use Rattle.lexical.proofs.Merging.{clean_rest}
use Rattle.address.specs.Rfc5322.{Addr, mailbox, most_addresses, mailbox_list}
use Rattle.address.specs.Reads.{dot_atom_rest, Found, addr_spec_of, name_rest, mailbox_of}
use Rattle.address.specs.Lists.{listed_on, listed, few_enough, mailbox_list_of, behind_comma, addresses_on, addresses_by, addresses}
use Rattle.address.proofs.Boxes.{mailbox_sound, mailbox_shortens, mailbox_complete}

-- ---- the rule, without its bound
abbrev Next : Addr → Rule
Next b = byte 44 ⋅ mailbox b

abbrev Boxes : List Addr → Rule
Boxes [] = nothing
Boxes (a ∷ others) = mailbox a ⋅ each Next others

boxes_more : {m u : List ℕ} (xs : List Addr) → At (byte 44) m u → At (Boxes xs) u [] → At (each Next xs) m []
boxes_more [] b h = absurd h.derived
boxes_more (x ∷ xs) b h = let p = seq_out h in seq_in (seq_in b p.1) p.2

listed_sound : (k : ℕ) (s : List ℕ) (xs : List Addr) → turns listed k s ≡ Some xs → At (Boxes xs) s []
listed_sound zero s xs e = absurd (none-some _ e)
listed_sound (suc k) s xs e =
    let m = bind_some (mailbox_of s) _ xs e in
    let f = m.0 in
    go (λ u ys q. listed_sound k u ys q) f.rest (mailbox_sound s f m.1) m.2
  where
    go : {a : Addr} → ((u : List ℕ) (ys : List Addr) → turns listed k u ≡ Some ys → At (Boxes ys) u []) → (r : List ℕ) → At (mailbox a) s r → listed_on (turns listed k) a r ≡ Some xs → At (Boxes xs) s []
    go {a} ih [] h q = subst (λ l. At (Boxes l) s []) (same_Some _ _ q) (seq_in h empty_in)
    go {a} ih (b ∷ u) h q =
        cond_both (eqb b 44) (bind (turns listed k u) (λ others. Some (a ∷ others))) None (λ o. o ≡ Some xs → At (Boxes xs) s [])
        (λ c w.
        let y = bind_some (turns listed k u) _ xs w in
        subst (λ l. At (Boxes l) s []) (same_Some _ _ y.2) (seq_in h (boxes_more y.0 (byte_in (eqb-true b 44 c)) (ih u y.0 y.1))))
        (λ _ w. absurd (none-some _ w))
        q

listed_complete : (k : ℕ) (s : List ℕ) (a : Addr) (others : List Addr) → clean s ≡ true → length s < k → At (mailbox a ⋅ each Next others) s [] → turns listed k s ≡ Some (a ∷ others)
listed_complete zero s a others c less h = absurd (omega arith)
listed_complete (suc k) s a [] c less h =
    let p = seq_out h in
    let e = empty_out p.2 in
    ap (λ o. bind o (λ m. listed_on (turns listed k) m.address m.rest)) (mailbox_complete s [] a c tt tt (subst (λ l. At (mailbox a) s l) e p.1))
listed_complete (suc k) s a (x ∷ xs) c less h =
    let p = seq_out h in
    let q = seq_out p.2 in
    let z = seq_out q.1 in
    let u = z.0 in
    let e = byte_out z.1 in
    let box = subst (λ l. At (mailbox a) s l) e p.1 in
    let found = mailbox_complete s (44 ∷ u) a c (refl, refl, refl) refl box in
    let more = listed_complete k u x xs (clean_rest z.1 (clean_rest p.1 c)) (omega (arith, mailbox_shortens s (record { address = a; rest = 44 ∷ u }) found)) (seq_in z.2 q.2) in
    ap (λ o. bind o (λ m. listed_on (turns listed k) m.address m.rest)) found ∙ ap (λ o. bind o (λ others. Some (a ∷ others))) more

-- ---- with its bound
list_sound : (s : List ℕ) (xs : List Addr) → mailbox_list_of s ≡ Some xs → mailbox_list xs s
list_sound s xs e =
    let y = bind_some (run listed s) few_enough xs e in
    cond_both (leb (length y.0) most_addresses) (Some y.0) None (λ o. o ≡ Some xs → mailbox_list xs s)
    (λ h q. subst (λ l. mailbox_list l s) (same_Some _ _ q) (go y.0 (leb-true (length y.0) most_addresses h) (listed_sound (suc (length s)) s y.0 y.1)))
    (λ _ q. absurd (none-some _ q))
    y.2
  where
    go : (ys : List Addr) → length ys ≤ most_addresses → At (Boxes ys) s [] → mailbox_list ys s
    go [] n h = h.derived
    go (a ∷ others) n h = (n, whole_out h)

list_complete : (s : List ℕ) (xs : List Addr) → clean s ≡ true → mailbox_list xs s → mailbox_list_of s ≡ Some xs
list_complete s [] c h = absurd h
list_complete s (a ∷ others) c h =
    ap (λ o. bind o few_enough) (listed_complete (suc (length s)) s a others c (omega arith) (whole_in h.1))
    ∙ cond-true (leb (length (a ∷ others)) most_addresses) _ None (le-leb (length (a ∷ others)) most_addresses h.0)

pub list_exact : (s : List ℕ) (r : Option (List Addr)) → r ≡ mailbox_list_of s → clean s ≡ true → Exactly mailbox_list itself s r
list_exact s r e c = exactly mailbox_list itself s (mailbox_list_of s) r (e ∙ mapped_itself (mailbox_list_of s)) (list_sound s) (λ xs h. list_complete s xs c h)

-- ---- the addresses one by one
comma_shorter : (s : List ℕ) → length (behind_comma s) ≤ length s
comma_shorter [] = omega arith
comma_shorter (b ∷ s) = cond_both (eqb b 44) (Some s) None (λ o. length (unwrap_or o []) ≤ suc (length s)) (λ _. omega arith) (λ _. omega arith)

same_on : (again on : List ℕ → List Addr) (s : List ℕ) → ((u : List ℕ) → length u < length s → again u ≡ on u) → (o : Option Found) → mailbox_of s ≡ o → addresses_on again o ≡ addresses_on on o
same_on again on s same None e = refl
same_on again on s same (Some m) e = ap (λ l. m.address ∷ l) (same (behind_comma m.rest) (omega (arith, mailbox_shortens s m e, comma_shorter m.rest)))

enough : (j k : ℕ) (s : List ℕ) → length s < j → length s < k → addresses_by j s ≡ addresses_by k s
enough zero k s h i = absurd (omega arith)
enough (suc j) zero s h i = absurd (omega arith)
enough (suc j) (suc k) s h i = same_on (addresses_by j) (addresses_by k) s (λ u less. enough j k u (omega arith) (omega arith)) (mailbox_of s) refl

nothing_there : addresses [] ≡ []
unfolding addresses mailbox_of addr_spec_of name_rest cfws dot_atom_rest
nothing_there = refl

pub first_found : (s : List ℕ) (m : Found) → mailbox_of s ≡ Some m → addresses s ≡ m.address ∷ addresses (behind_comma m.rest)
unfolding addresses
first_found s m e =
    ap (addresses_on (addresses_by (length s))) e
    ∙ ap (λ l. m.address ∷ l) (enough (length s) (suc (length (behind_comma m.rest))) (behind_comma m.rest) (omega (arith, mailbox_shortens s m e, comma_shorter m.rest)) (omega arith))

pub none_found : (s : List ℕ) → mailbox_of s ≡ None → addresses s ≡ []
unfolding addresses
none_found s e = ap (addresses_on (addresses_by (length s))) e

-- a list has just its addresses
listed_addresses : (k : ℕ) (s : List ℕ) (xs : List Addr) → turns listed k s ≡ Some xs → addresses s ≡ xs
listed_addresses zero s xs e = absurd (none-some _ e)
listed_addresses (suc k) s xs e =
    let m = bind_some (mailbox_of s) _ xs e in
    let f = m.0 in
    first_found s f m.1 ∙ go (λ u ys q. listed_addresses k u ys q) f.rest m.2
  where
    go : {a : Addr} → ((u : List ℕ) (ys : List Addr) → turns listed k u ≡ Some ys → addresses u ≡ ys) → (r : List ℕ) → listed_on (turns listed k) a r ≡ Some xs → a ∷ addresses (behind_comma r) ≡ xs
    go {a} ih [] q = ap (λ l. a ∷ l) nothing_there ∙ same_Some _ _ q
    go {a} ih (b ∷ u) q =
        cond_both (eqb b 44) (bind (turns listed k u) (λ others. Some (a ∷ others))) None (λ o. o ≡ Some xs → a ∷ addresses (unwrap_or (cond (eqb b 44) (Some u) None) []) ≡ xs)
        (λ c w.
        let y = bind_some (turns listed k u) _ xs w in
        ap (λ o. a ∷ addresses (unwrap_or o [])) (cond-true (eqb b 44) (Some u) None c) ∙ ap (λ l. a ∷ l) (ih u y.0 y.1) ∙ same_Some _ _ y.2)
        (λ _ w. absurd (none-some _ w))
        q

pub list_addresses : (s : List ℕ) (xs : List Addr) → mailbox_list_of s ≡ Some xs → addresses s ≡ xs
list_addresses s xs e =
    let y = bind_some (run listed s) few_enough xs e in
    cond_both (leb (length y.0) most_addresses) (Some y.0) None (λ o. o ≡ Some xs → addresses s ≡ xs)
    (λ _ q. listed_addresses (suc (length s)) s y.0 y.1 ∙ same_Some _ _ q)
    (λ _ q. absurd (none-some _ q))
    y.2

-- ---- the loop that counts them
-- how many there are with n before them is within the bound
abbrev counted : ℕ → Option (List Addr) → Bool
counted n None = false
counted n (Some xs) = leb (n + length xs) most_addresses

-- behind n mailboxes of s, at `rest`, it is still open whether s is a list
pub record Counting (s rest : List ℕ) (n : ℕ) : Type 0 where
  pub fuel : ℕ
  pub long_enough : length rest ≤ fuel
  pub same : counted n (listed (turns listed fuel) rest) ≡ is_some (mailbox_list_of s)

pub list_there : (s : List ℕ) → true ≡ is_some (mailbox_list_of s) → Some (addresses s) ≡ mailbox_list_of s
list_there s e = go (mailbox_list_of s) refl e
  where
    go : (o : Option (List Addr)) → mailbox_list_of s ≡ o → true ≡ is_some o → Some (addresses s) ≡ mailbox_list_of s
    go None q h = cc
    go (Some xs) q h = ap Some (list_addresses s xs q) ∙ sym q

one_first : (n : ℕ) (a : Addr) (o : Option (List Addr)) → counted n (bind o (λ others. Some (a ∷ others))) ≡ counted (n + 1) o
one_first n a None = refl
one_first n a (Some xs) = let e : n + suc (length xs) ≡ n + 1 + length xs = omega arith in ap (λ k. leb k most_addresses) e

module _ (s rest : List ℕ) (n : ℕ) (c : Counting s rest n) (m : Found) (e : mailbox_of rest ≡ Some m) where
  behind_it : (r : List ℕ) → m.rest ≡ r → counted n (listed_on (turns listed c.fuel) m.address r) ≡ is_some (mailbox_list_of s)
  behind_it r q =
      ap (λ l. counted n (listed_on (turns listed c.fuel) m.address l)) (sym q)
      ∙ ap (λ o. counted n (bind o (λ f. listed_on (turns listed c.fuel) f.address f.rest))) (sym e)
      ∙ c.same

  pub last_mailbox : n < most_addresses → m.rest ≡ [] → Some (addresses s) ≡ mailbox_list_of s
  last_mailbox room q = list_there s (sym (le-leb (n + 1) most_addresses (omega (arith, room))) ∙ behind_it [] q)

  comma : (u : List ℕ) → behind_byte 44 m.rest ≡ Some u → m.rest ≡ 44 ∷ u
  comma u q = byte_out (byte_sound 44 m.rest u q)

  pub one_shorter : (u : List ℕ) → behind_byte 44 m.rest ≡ Some u → length u < length rest
  one_shorter u q = omega (arith, ap length (comma u q), mailbox_shortens rest m e)

  pub one_counted : (u : List ℕ) → behind_byte 44 m.rest ≡ Some u → Counting s u (n + 1)
  one_counted u q = go c.fuel c.long_enough (sym (one_first n m.address (turns listed c.fuel u)) ∙ behind_it (44 ∷ u) (comma u q))
    where
      go : (k : ℕ) → length rest ≤ k → counted (n + 1) (turns listed k u) ≡ is_some (mailbox_list_of s) → Counting s u (n + 1)
      go zero h w = absurd (omega (arith, one_shorter u q))
      go (suc k) h w = record { fuel = k; long_enough = omega (arith, one_shorter u q); same = w }

pub addresses_few : (s : List ℕ) → length (addresses s) ≤ length s
unfolding addresses
addresses_few s = go (suc (length s)) s
  where
    go : (k : ℕ) (u : List ℕ) → length (addresses_by k u) ≤ length u
    go zero u = omega arith
    go (suc k) u = on (mailbox_of u) refl (go k)
      where
        on : (o : Option Found) → mailbox_of u ≡ o → ((v : List ℕ) → length (addresses_by k v) ≤ length v) → length (addresses_on (addresses_by k) o) ≤ length u
        on None e ih = omega arith
        on (Some m) e ih = omega (arith, ih (behind_comma m.rest), comma_shorter m.rest, mailbox_shortens u m e)
