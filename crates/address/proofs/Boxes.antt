-- Mailboxes, in a clean body.
use Rattle.std.proofs.Common.{◌≡◌, ℕ, ◌<◌, true, eqb, List, ◌∷◌, length, Some, None, sym, refl, ap, ◌∙◌, subst, ⊎_elim, arith}
use Rattle.std.proofs.lemmas.Option.{same_Some}
use Rattle.fields.specs.Clean.{clean}
use Rattle.abnf.specs.Abnf.{◌⋅◌, plus, opt, byte, one, At}
use Rattle.abnf.specs.Classes.{atext, behind_byte}
use Rattle.abnf.specs.Turns.{Left, bind}
use Rattle.abnf.proofs.Operators.{seq_in, seq_out, alt_left, alt_right, alt_out, opt_none, opt_some, opt_out, byte_out, the_out, Many, no_more, one_more, many_in, many_out, many_join, many_map, at_shorter}
use Rattle.abnf.proofs.Runs.{Off, one_shortens, byte_sound}
use Rattle.abnf.proofs.Turns.{bind_some}
use Rattle.lexical.specs.Rfc5322.{CFWS}
use Rattle.lexical.specs.Spans.{token_of}
use Rattle.lexical.specs.Exact.{Apart}
use Rattle.lexical.specs.Tokens.{token_steps}
use Rattle.address.specs.Rfc5322.{Addr, local_part, name_addr, mailbox}
use Rattle.address.specs.Reads.{local_rest, domain_rest, Found, addr_spec_of, name_rest, angle_start, by_angle, mailbox_of}
use Rattle.address.specs.Dots.{dot_or_atext, local_reads, domain_reads}
use Rattle.address.specs.Addresses.{addr_sound, addr_complete, AngleTail, angle_sound, angle_complete}
use Rattle.address.proofs.Names.{AnyWord, Named, name_sound, name_complete, Piece, Stop, white_pieces, atext_pieces, quoted_pieces, word_pieces}

-- ---- what is found is derived
named_out : {s m u : List ℕ} (x : Addr) (t : List ℕ) → At Named s m → At (byte 60) m u → At (AngleTail x) u t → At (name_addr x) s t
named_out {s} {m} {u} x t h b a =
    let p = seq_out h in
    let angle = seq_in p.2 (seq_in b a) in
    seq_in (words (many_out p.1)) angle
  where
    words : {n : List ℕ} → Many AnyWord s n → At (opt (plus AnyWord)) s n
    words no_more = opt_none
    words (one_more a r) = opt_some (seq_in a (many_in r))

pub mailbox_sound : (s : List ℕ) (f : Found) → mailbox_of s ≡ Some f → At (mailbox f.address) s f.rest
unfolding mailbox_of
mailbox_sound s f e = go (angle_start s) refl e
  where
    go : (o : Left) → angle_start s ≡ o → by_angle o s ≡ Some f → At (mailbox f.address) s f.rest
    go None q r = alt_right (addr_sound s f r)
    go (Some u) q r =
        let n = bind_some (name_rest s) (behind_byte 60) u q in
        alt_left (named_out f.address f.rest (name_sound s n.0 n.1) (byte_sound 60 n.0 u n.2) (angle_sound u f r))

-- ---- what is left is shorter
addr_shortens : (s : List ℕ) (f : Found) → addr_spec_of s ≡ Some f → length f.rest < length s
unfolding addr_spec_of
addr_shortens s f e =
    let a = bind_some (token_of local_rest s) _ f e in
    let b = bind_some (behind_byte 64 a.0.rest) _ f a.2 in
    let c = bind_some (token_of domain_rest b.0) _ f b.2 in
    let l = token_steps local_reads s a.0 a.1 in
    let d = token_steps domain_reads b.0 c.0 c.1 in
    omega (arith, at_shorter l.before, at_shorter l.text, at_shorter l.behind, one_shortens (λ n. eqb n 64) a.0.rest b.0 b.1, at_shorter d.before, at_shorter d.text, at_shorter d.behind, ap (λ (z : Found). length z.rest) (same_Some _ _ c.2))

pub mailbox_shortens : (s : List ℕ) (f : Found) → mailbox_of s ≡ Some f → length f.rest < length s
unfolding mailbox_of
mailbox_shortens s f e = go (angle_start s) refl e
  where
    go : (o : Left) → angle_start s ≡ o → by_angle o s ≡ Some f → length f.rest < length s
    go None q r = addr_shortens s f r
    go (Some u) q r =
        let n = bind_some (name_rest s) (behind_byte 60) u q in
        omega (arith, at_shorter (name_sound s n.0 n.1), one_shortens (λ b. eqb b 60) n.0 u n.2, at_shorter (angle_sound u f r))

-- ---- what is derived is found
phrase_pieces : {s m : List ℕ} → At (opt (plus AnyWord)) s m → Many Piece s m
phrase_pieces {s} {m} h = ⊎_elim
    (λ e. subst (λ l. Many Piece s l) e no_more)
    (λ q. let p = seq_out q in many_map word_pieces (one_more p.1 (many_out p.2)))
    (opt_out h)

-- an address leads to no "<"
local_stops : (s r : List ℕ) (x : List ℕ) → clean s ≡ true → At (local_part x) s (64 ∷ r) → angle_start s ≡ None
local_stops s r x c h = ⊎_elim
    (λ a.
    let p = seq_out a in
    let q = seq_out p.2 in
    let t = seq_out (the_out q.1).0 in
    dots p.0 t.0 q.0 p.1 t.1 (many_out t.2) q.2)
    (λ b.
    let p = seq_out b in
    let q = seq_out p.2 in
    no_angle (64 ∷ r) (name_complete s (64 ∷ r) c (refl, refl, refl, refl, refl) (many_join (white_pieces p.1) (many_join (quoted_pieces (the_out q.1).0) (white_pieces q.2)))) refl)
    (alt_out h)
  where
    no_angle : (m : List ℕ) → name_rest s ≡ Some m → behind_byte 60 m ≡ None → angle_start s ≡ None
    no_angle m e f = ap (λ o. bind o (behind_byte 60)) e ∙ f

    dots : (a b d : List ℕ) → At (opt CFWS) s a → At (plus (one atext)) a b → Many (byte 46 ⋅ plus (one atext)) b d → At (opt CFWS) d (64 ∷ r) → angle_start s ≡ None
    dots a b d w t no_more v = no_angle (64 ∷ r) (name_complete s (64 ∷ r) c (refl, refl, refl, refl, refl) (many_join (white_pieces w) (many_join (atext_pieces t) (white_pieces v)))) refl
    dots a b d w t (one_more z k) v =
        let y = seq_out z in
        let e = byte_out y.1 in
        no_angle b (name_complete s b c (subst Stop (sym e) (refl, refl, refl, refl, refl)) (many_join (white_pieces w) (atext_pieces t))) (ap (behind_byte 60) e)

pub mailbox_complete : (s t : List ℕ) (x : Addr) → clean s ≡ true → Apart t → Off dot_or_atext t → At (mailbox x) s t → mailbox_of s ≡ Some (record { address = x; rest = t })
unfolding mailbox_of
mailbox_complete s t x c a o h = ⊎_elim
    (λ n.
    let p = seq_out n in
    let q = seq_out p.2 in
    let z = seq_out q.2 in
    let sign = byte_out z.1 in
    let found : name_rest s ≡ Some (60 ∷ z.0) = name_complete s (60 ∷ z.0) c (refl, refl, refl, refl, refl) (subst (λ l. Many Piece s l) sign (many_join (phrase_pieces p.1) (white_pieces q.1))) in
    ap (λ r. by_angle (bind r (behind_byte 60)) s) found ∙ angle_complete z.0 t x a z.2)
    (λ b.
    let p = seq_out b in
    let q = seq_out p.2 in
    ap (λ r. by_angle r s) (local_stops s q.0 x.local c (subst (λ l. At (local_part x.local) s l) (byte_out q.1) p.1)) ∙ addr_complete s t x a o b)
    (alt_out h)
