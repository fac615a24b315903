-- The equality of addresses is an equivalence.
use Rattle.std.proofs.Common.{◌≡◌, true, map, sym, refl, ◌∙◌}
use Rattle.std.specs.Char.{to_ascii_lowercase}
use Rattle.std.specs.Str.{bytes_eq}
use Rattle.std.proofs.lemmas.Slice.Eq.{bytes_eq-Decides}
use Rattle.std.proofs.lemmas.Bool.{and_parts, and_from}
use Rattle.abnf.specs.Strings.{alike}
use Rattle.abnf.proofs.Spelling.{alike_decides}
use Rattle.address.specs.Rfc5322.{Addr}
use Rattle.equality.specs.Equality.{same_address}

-- what it says
record Same (a b : Addr) : Type 0 where
  locals : a.local ≡ b.local
  domains : map to_ascii_lowercase a.domain ≡ map to_ascii_lowercase b.domain

same_out : (a b : Addr) → same_address a b ≡ true → Same a b
unfolding same_address
same_out a b e =
    let p = and_parts (bytes_eq a.local b.local) (alike a.domain b.domain) e in
    record { locals = (bytes_eq-Decides a.local b.local).0 p.0; domains = (alike_decides a.domain b.domain).0 p.1 }

same_in : (a b : Addr) → Same a b → same_address a b ≡ true
unfolding same_address
same_in a b s =
    and_from (bytes_eq a.local b.local) (alike a.domain b.domain) ((bytes_eq-Decides a.local b.local).1 s.locals) ((alike_decides a.domain b.domain).1 s.domains)

pub same_itself : (a : Addr) → same_address a a ≡ true
same_itself a = same_in a a (record { locals = refl; domains = refl })

pub same_back : (a b : Addr) → same_address a b ≡ true → same_address b a ≡ true
same_back a b e = let s = same_out a b e in same_in b a (record { locals = sym s.locals; domains = sym s.domains })

pub same_on : (a b c : Addr) → same_address a b ≡ true → same_address b c ≡ true → same_address a c ≡ true
same_on a b c e f = let s = same_out a b e in let t = same_out b c f in same_in a c (record { locals = s.locals ∙ t.locals; domains = s.domains ∙ t.domains })
