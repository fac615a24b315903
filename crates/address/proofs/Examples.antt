-- Examples, computed.
use Rattle.std.proofs.Common.{◌≡◌, ℕ, List, [], ◌∷◌, Some, None, codes, refl}
use Rattle.lexical.specs.Reads.{cfws, quoted_rest}
use Rattle.address.specs.Rfc5322.{Addr}
use Rattle.address.specs.Reads.{dot_atom_rest, addr_spec_of, name_rest, mailbox_of, path_of, msg_id_of}
use Rattle.address.specs.Lists.{mailbox_list_of}

abbrev addr_of : List ℕ → List ℕ → Addr
addr_of x y = record { local = x; domain = y }

-- RFC 5322, A.1.2
two : mailbox_list_of (codes "<boss@nil.test>, \"Giant; \\\"Big\\\" Box\" <sysservices@example.net>") ≡ Some (addr_of (codes "boss") (codes "nil.test") ∷ addr_of (codes "sysservices") (codes "example.net") ∷ [])
unfolding cfws quoted_rest dot_atom_rest addr_spec_of name_rest mailbox_of
two = refl

-- RFC 5322, A.5
commented : mailbox_list_of (codes "Pete(A nice \\) chap) <pete(his account)@silly.test(his host)>") ≡ Some (addr_of (codes "pete") (codes "silly.test") ∷ [])
unfolding cfws quoted_rest dot_atom_rest addr_spec_of name_rest mailbox_of
commented = refl

empty_quotes : mailbox_list_of (codes "\"\"@b") ≡ Some (addr_of (codes "\"\"") (codes "b") ∷ [])
unfolding cfws quoted_rest dot_atom_rest addr_spec_of name_rest mailbox_of
empty_quotes = refl

dot_in_name : mailbox_list_of (codes "J. Doe <a@b>") ≡ None
unfolding cfws quoted_rest dot_atom_rest addr_spec_of name_rest mailbox_of
dot_in_name = refl

group : mailbox_list_of (codes "grp:a@b;") ≡ None
unfolding cfws quoted_rest dot_atom_rest addr_spec_of name_rest mailbox_of
group = refl

space_in_literal : mailbox_list_of (codes "a@[1 2]") ≡ None
unfolding cfws quoted_rest dot_atom_rest addr_spec_of name_rest mailbox_of
space_in_literal = refl

null_path : path_of (codes " < (c) > ") ≡ Some None
unfolding cfws
null_path = refl

identifier : msg_id_of (codes " <a.b@[c]> (d)") ≡ Some (record { at = 1; bytes = codes "<a.b@[c]>" })
unfolding cfws dot_atom_rest
identifier = refl
