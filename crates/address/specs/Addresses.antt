-- addr-spec, and an angle-addr whose "<" was read.
use Rattle.std.specs.Prelude.{◌≡◌, ℕ, List, ◌∷◌, Some, Option, refl}
use Rattle.std.proofs.Common.{sym, ap, subst, ◌∙◌}
use Rattle.std.proofs.lemmas.Option.{same_Some}
use Rattle.abnf.specs.Abnf.{Rule, ◌⋅◌, opt, byte, At}
use Rattle.abnf.specs.Classes.{behind_byte}
use Rattle.abnf.specs.Turns.{bind}
use Rattle.abnf.proofs.Operators.{seq_in, seq_out, byte_out}
use Rattle.abnf.proofs.Runs.{Off, byte_sound, byte_complete}
use Rattle.abnf.proofs.Turns.{bind_some}
use Rattle.lexical.specs.Rfc5322.{CFWS}
use Rattle.lexical.specs.Reads.{cfws}
use Rattle.lexical.specs.Spans.{Token, text_of, token_of}
use Rattle.lexical.specs.Exact.{Apart}
use Rattle.lexical.specs.Comments.{cfws_sound, cfws_complete}
use Rattle.lexical.specs.Tokens.{token_steps, token_found, around_in, around_out, split, join}
use Rattle.address.specs.Rfc5322.{Addr, addr_spec}
use Rattle.address.specs.Reads.{local_rest, domain_rest, Found, addr_spec_of, angle_of}
use Rattle.address.specs.Dots.{dot_or_atext, local_reads, domain_reads}

pub addr_sound : (s : List ℕ) (f : Found) → addr_spec_of s ≡ Some f → At (addr_spec f.address) s f.rest
unfolding addr_spec_of
addr_sound s f e =
    let a = bind_some (token_of local_rest s) _ f e in
    let b = bind_some (behind_byte 64 a.0.rest) _ f a.2 in
    let c = bind_some (token_of domain_rest b.0) _ f b.2 in
    let same = same_Some _ _ c.2 in
    let l = split (around_in (token_steps local_reads s a.0 a.1)) in
    let d = split (around_in (token_steps domain_reads b.0 c.0 c.1)) in
    subst (λ (z : Found). At (addr_spec z.address) s z.rest) same (seq_in l (seq_in (byte_sound 64 a.0.rest b.0 b.1) d))

pub addr_complete : (s t : List ℕ) (x : Addr) → Apart t → Off dot_or_atext t → At (addr_spec x) s t → addr_spec_of s ≡ Some (record { address = x; rest = t })
unfolding addr_spec_of
addr_complete s t x a o h =
    let p = seq_out h in
    let q = seq_out p.2 in
    let sign = byte_out q.1 in
    let l = around_out local_rest (join p.1) in
    let d = around_out domain_rest (join q.2) in
    let rest-l : l.0.rest ≡ 64 ∷ q.0 = l.3 ∙ sign in
    let found-l = token_found local_reads s l.0 (subst Apart (sym rest-l) (refl, refl, refl)) (subst (Off dot_or_atext) (sym rest-l) refl) l.1 in
    let found-d = token_found domain_reads q.0 d.0 (subst Apart (sym d.3) a) (subst (Off dot_or_atext) (sym d.3) o) d.1 in
    let made : List ℕ → List ℕ → List ℕ → Found = λ u v w. record { address = record { local = u; domain = v }; rest = w } in
    let on-d : List ℕ → Token → Option Found = λ u k. Some (made u (text_of k.text) k.rest) in
    ap (λ r. bind r (λ k. bind (behind_byte 64 k.rest) (λ u. bind (token_of domain_rest u) (on-d (text_of k.text))))) found-l
    ∙ ap (λ r. bind (behind_byte 64 r) (λ u. bind (token_of domain_rest u) (on-d (text_of l.0.text)))) l.3
    ∙ ap (λ r. bind r (λ u. bind (token_of domain_rest u) (on-d (text_of l.0.text)))) (byte_complete 64 p.0 q.0 q.1)
    ∙ ap (λ r. bind r (on-d (text_of l.0.text))) found-d
    ∙ ap (λ u. Some (made u (text_of d.0.text) d.0.rest)) l.2
    ∙ ap (λ v. Some (made x.local v d.0.rest)) d.2
    ∙ ap (λ w. Some (made x.local x.domain w)) d.3

-- ---- addr-spec ">" [CFWS]
abbrev pub AngleTail : Addr → Rule
AngleTail x = addr_spec x ⋅ byte 62 ⋅ opt CFWS

pub angle_sound : (s : List ℕ) (f : Found) → angle_of s ≡ Some f → At (AngleTail f.address) s f.rest
angle_sound s f e =
    let a = bind_some (addr_spec_of s) _ f e in
    let b = bind_some (behind_byte 62 a.0.rest) _ f a.2 in
    let c = bind_some (cfws b.0) _ f b.2 in
    subst (λ (z : Found). At (AngleTail z.address) s z.rest) (same_Some _ _ c.2)
    (seq_in (addr_sound s a.0 a.1) (seq_in (byte_sound 62 a.0.rest b.0 b.1) (cfws_sound b.0 c.0 c.1)))

-- up to the ">"
pub addr_closed : (s t : List ℕ) (x : Addr) → At (addr_spec x ⋅ byte 62) s t → addr_spec_of s ≡ Some (record { address = x; rest = 62 ∷ t })
addr_closed s t x h =
    let p = seq_out h in
    addr_complete s (62 ∷ t) x (refl, refl, refl) refl (subst (λ l. At (addr_spec x) s l) (byte_out p.2) p.1)

pub angle_complete : (s t : List ℕ) (x : Addr) → Apart t → At (AngleTail x) s t → angle_of s ≡ Some (record { address = x; rest = t })
angle_complete s t x a h =
    let p = seq_out h in
    let q = seq_out p.2 in
    ap (λ r. bind r (λ f. bind (behind_byte 62 f.rest) (λ u. bind (cfws u) (λ v. Some (record { address = f.address; rest = v }))))) (addr_closed s q.0 x (seq_in p.1 q.1))
    ∙ ap (λ r. bind r (λ v. Some (record { address = x; rest = v }))) (cfws_complete q.0 t a q.2)
