-- Paths and message identifiers.
use Rattle.std.specs.Prelude.{◌≡◌, ℕ, false, List, [], ◌∷◌, Some, None, Option, ◌==◌, nat_eq, refl}
use Rattle.std.proofs.Common.{⊎_elim, sym, ap, subst, ◌∙◌, arith}
use Rattle.std.specs.Option.{option_map}
use Rattle.std.proofs.lemmas.Bool.{cond-false}
use Rattle.std.proofs.lemmas.Option.{none-some, same_Some}
use Rattle.fields.specs.Fields.{Placed}
use Rattle.abnf.specs.Abnf.{◌∕◌, opt, byte, At}
use Rattle.abnf.specs.Exact.{Exactly, itself}
use Rattle.abnf.specs.Classes.{atext, behind_byte}
use Rattle.abnf.specs.Turns.{Left, bind}
use Rattle.abnf.proofs.Operators.{seq_in, seq_out, alt_out, byte_out, whole_in, whole_out}
use Rattle.abnf.proofs.Runs.{Off, Shortens, one_shortens, byte_sound, byte_complete}
use Rattle.abnf.proofs.Turns.{bind_some}
use Rattle.abnf.proofs.Exactness.{exactly, mapped_itself}
use Rattle.lexical.specs.Rfc5322.{CFWS, quoted_text}
use Rattle.lexical.specs.Reads.{cfws}
use Rattle.lexical.specs.Spans.{Token, within_of, moved, token_of}
use Rattle.lexical.specs.Exact.{Apart}
use Rattle.lexical.specs.Comments.{cfws_sound, cfws_complete}
use Rattle.lexical.specs.Tokens.{Reads, token_steps, token_found, placed_in, placed_out, around_out, join, some_first}
use Rattle.address.specs.Rfc5322.{dot_atom_text, Addr, addr_spec, msg_id_text, msg_id, path}
use Rattle.address.specs.Reads.{dot_atom_rest, local_rest, domain_rest, addr_spec_of, at_end, to_end, null_rest, path_from, path_of, msg_id_rest, msg_id_of}
use Rattle.address.specs.Dots.{dots_shorten, domain_shortens, dots_read, local_reads, domain_reads}
use Rattle.address.specs.Addresses.{addr_sound, addr_closed}

-- ---- what fills the bytes
at_end_some : {A : Type 0} (x y : A) (s : List ℕ) → at_end x s ≡ Some y → (s ≡ []) × (x ≡ y)
at_end_some x y [] e = (refl, same_Some _ _ e)
at_end_some x y (b ∷ s) e = absurd (none-some _ e)

to_end_sound : {A : Type 0} (x y : A) (s : List ℕ) → to_end x s ≡ Some y → At (opt CFWS) s [] × (x ≡ y)
to_end_sound x y s e =
    let c = bind_some (cfws s) (at_end x) y e in
    let d = at_end_some x y c.0 c.2 in
    (subst (λ l. At (opt CFWS) s l) d.0 (cfws_sound s c.0 c.1), d.1)

to_end_complete : {A : Type 0} (x : A) (s : List ℕ) → At (opt CFWS) s [] → to_end x s ≡ Some x
to_end_complete x s h = ap (λ o. bind o (at_end x)) (cfws_complete s [] tt h)

-- ---- path
path_sound : (s : List ℕ) (x : Option Addr) → path_of s ≡ Some x → path x s
path_sound s x e =
    let a = bind_some (cfws s) _ x e in
    let b = bind_some (behind_byte 60 a.0) _ x a.2 in
    go a.0 b.0 (cfws_sound s a.0 a.1) (byte_sound 60 a.0 b.0 b.1) (null_rest b.0) refl b.2
  where
    null : (t u v : List ℕ) → At (opt CFWS) s t → At (byte 60) t u → null_rest u ≡ Some v → to_end None v ≡ Some x → path x s
    null t u v w k q r =
        let n = bind_some (cfws u) (behind_byte 62) v q in
        let z = to_end_sound None x v r in
        subst (λ y. path y s) z.1 (whole_out (seq_in w (seq_in k (seq_in (cfws_sound u n.0 n.1) (seq_in (byte_sound 62 n.0 v n.2) z.0)))))

    go : (t u : List ℕ) → At (opt CFWS) s t → At (byte 60) t u → (o : Left) → null_rest u ≡ o → path_from o u ≡ Some x → path x s
    go t u w k (Some v) q r = null t u v w k q r
    go t u w k None q r =
        let f = bind_some (addr_spec_of u) _ x r in
        let g = bind_some (behind_byte 62 f.0.rest) _ x f.2 in
        let z = to_end_sound (Some f.0.address) x g.0 g.2 in
        subst (λ y. path y s) z.1 (whole_out (seq_in w (seq_in k (seq_in (addr_sound u f.0 f.1) (seq_in (byte_sound 62 f.0.rest g.0 g.1) z.0)))))

-- an address is no null path
text_not_null : (u v : List ℕ) → At (dot_atom_text ∕ quoted_text) u v → behind_byte 62 u ≡ None
text_not_null u v h = ⊎_elim
    (λ d. let p = seq_out d in let f = some_first atext 62 refl u p.0 p.1 in ap (behind_byte 62) f.2 ∙ cond-false (f.0 == 62) (Some f.1) None f.3)
    (λ q. let p = seq_out q in ap (behind_byte 62) (byte_out p.1))
    (alt_out h)

addr_not_null : (s t : List ℕ) (x : Addr) → At (addr_spec x) s t → null_rest s ≡ None
addr_not_null s t x h =
    let p = seq_out h in
    let l = around_out local_rest (join p.1) in
    let from = l.0.text.from in
    let to = l.0.text.to in
    ap (λ o. bind o (behind_byte 62)) (cfws_complete s from (local_reads.begins from to l.1.text) l.1.before) ∙ text_not_null from to l.1.text

-- past the "<"
angle_opened : (s t u : List ℕ) → At (opt CFWS) s t → At (byte 60) t u → path_of s ≡ path_from (null_rest u) u
angle_opened s t u w k =
    let e = byte_out k in
    ap (λ o. bind o (λ y. bind (behind_byte 60 y) (λ v. path_from (null_rest v) v))) (cfws_complete s t (subst Apart (sym e) (refl, refl, refl)) w)
    ∙ ap (λ o. bind o (λ v. path_from (null_rest v) v)) (byte_complete 60 t u k)

path_complete : (s : List ℕ) (x : Option Addr) → path x s → path_of s ≡ Some x
path_complete s None h =
    let p = seq_out (whole_in {A = path None} h) in
    let q = seq_out p.2 in
    let z = seq_out q.2 in
    let y = seq_out z.2 in
    let e = byte_out y.1 in
    let null : null_rest q.0 ≡ Some y.0 =
    ap (λ o. bind o (behind_byte 62)) (cfws_complete q.0 z.0 (subst Apart (sym e) (refl, refl, refl)) z.1) ∙ byte_complete 62 z.0 y.0 y.1 in
    angle_opened s p.0 q.0 p.1 q.1 ∙ ap (λ o. path_from o q.0) null ∙ to_end_complete None y.0 y.2
path_complete s (Some a) h =
    let p = seq_out (whole_in {A = path (Some a)} h) in
    let q = seq_out p.2 in
    let z = seq_out q.2 in
    let y = seq_out z.2 in
    let last : List ℕ → Addr → Option (Option Addr) = λ u b. bind (behind_byte 62 u) (to_end (Some b)) in
    angle_opened s p.0 q.0 p.1 q.1
    ∙ ap (λ o. path_from o q.0) (addr_not_null q.0 z.0 a z.1)
    ∙ ap (λ o. bind o (λ f. last f.rest f.address)) (addr_closed q.0 y.0 a (seq_in z.1 y.1))
    ∙ to_end_complete (Some a) y.0 y.2

pub path_exact : (s : List ℕ) (r : Option (Option Addr)) → r ≡ path_of s → Exactly path itself s r
path_exact s r e = exactly path itself s (path_of s) r (e ∙ mapped_itself (path_of s)) (path_sound s) (path_complete s)

-- ---- msg-id
pub msg_id_shortens : Shortens msg_id_rest
msg_id_shortens s t e =
    let a = bind_some (behind_byte 60 s) _ t e in
    let b = bind_some (dot_atom_rest a.0) _ t a.2 in
    let c = bind_some (behind_byte 64 b.0) _ t b.2 in
    let d = bind_some (domain_rest c.0) (behind_byte 62) t c.2 in
    omega (arith, one_shortens (λ n. nat_eq n 60) s a.0 a.1, dots_shorten a.0 b.0 b.1, one_shortens (λ n. nat_eq n 64) b.0 c.0 c.1, domain_shortens c.0 d.0 d.1, one_shortens (λ n. nat_eq n 62) d.0 t d.2)

msg_id_reads : Reads msg_id_rest msg_id_text (λ b. false)
msg_id_reads = record {
  sound = λ s t e.
      let a = bind_some (behind_byte 60 s) _ t e in
      let b = bind_some (dot_atom_rest a.0) _ t a.2 in
      let c = bind_some (behind_byte 64 b.0) _ t b.2 in
      let d = bind_some (domain_rest c.0) (behind_byte 62) t c.2 in
      seq_in (byte_sound 60 s a.0 a.1) (seq_in (dots_read.sound a.0 b.0 b.1) (seq_in (byte_sound 64 b.0 c.0 c.1) (seq_in (domain_reads.sound c.0 d.0 d.1) (byte_sound 62 d.0 t d.2))));
  complete = λ s t h o.
      let a = seq_out h in
      let b = seq_out a.2 in
      let c = seq_out b.2 in
      let d = seq_out c.2 in
      let right : List ℕ → Left = λ u. bind (domain_rest u) (behind_byte 62) in
      let left : List ℕ → Left = λ u. bind (dot_atom_rest u) (λ v. bind (behind_byte 64 v) right) in
      ap (λ r. bind r left) (byte_complete 60 s a.0 a.1)
      ∙ ap (λ r. bind r (λ v. bind (behind_byte 64 v) right)) (dots_read.complete a.0 b.0 b.1 (subst (Off _) (sym (byte_out c.1)) refl))
      ∙ ap (λ r. bind r right) (byte_complete 64 b.0 c.0 c.1)
      ∙ ap (λ r. bind r (behind_byte 62)) (domain_reads.complete c.0 d.0 d.1 (subst (Off _) (sym (byte_out d.2)) refl))
      ∙ byte_complete 62 d.0 t d.2;
  begins = λ s t h. let a = seq_out h in subst Apart (sym (byte_out a.1)) (refl, refl, refl);
  ends = λ b w. refl;
}

msg_id_sound : (s : List ℕ) (x : Placed) → msg_id_of s ≡ Some x → msg_id x s
msg_id_sound s x e =
    let a = bind_some (token_of msg_id_rest s) _ x e in
    let k = a.0 in
    let d = at_end_some (within_of s k.text) x k.rest a.2 in
    subst (λ y. msg_id y s) d.1 (whole_out (subst (λ l. At (msg_id (within_of s k.text)) s l) d.0 (placed_in (token_steps msg_id_reads s k a.1))))

any_end : (t : List ℕ) → t ≡ [] → Apart t × Off (λ b. false) t
any_end t e = subst (λ l. Apart l × Off (λ b. false) l) (sym e) (tt, tt)

msg_id_complete : (s : List ℕ) (x : Placed) → msg_id x s → msg_id_of s ≡ Some x
msg_id_complete s x h =
    let p = placed_out msg_id_rest (whole_in {A = msg_id x} h) in
    let k = p.0 in
    let end = any_end k.rest p.3 in
    ap (λ o. bind o (λ (t : Token). at_end (within_of s t.text) t.rest)) (token_found msg_id_reads s k end.0 end.1 p.1)
    ∙ ap (at_end (within_of s k.text)) p.3
    ∙ ap Some p.2

pub msg_id_exact : (at : ℕ) (s : List ℕ) (r : Option Placed) → r ≡ option_map (moved at) (msg_id_of s) → Exactly msg_id (moved at) s r
msg_id_exact at s r e = exactly msg_id (moved at) s (msg_id_of s) r e (msg_id_sound s) (msg_id_complete s)
