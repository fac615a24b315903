-- The examples, computed.
use Rattle.std.proofs.Common.{◌≡◌, true, false, [], ◌∷◌, None, Some, Ok, Err, Result, MatchResult, codes, refl, ap, ◌∙◌}
use Rattle.fields.specs.declared.refusal.Refusal.{Refusal}
use Rattle.abnf.specs.Strings.{alike}
use Rattle.fields.specs.Lines.{texts}
use Rattle.fields.specs.Fields.{cut}
use Rattle.fields.specs.Walks.{meaning, told, walked}
use Rattle.lexical.specs.Reads.{cfws, quoted_rest}
use Rattle.address.specs.Reads.{dot_atom_rest, addr_spec_of, name_rest, mailbox_of}
use Rattle.address.specs.Lists.{mailbox_list_of}
use Rattle.equality.specs.Equality.{same_address}
use Rattle.equality.specs.Distinct.{distinct}
use Rattle.header.specs.Names.{known_as}
use Rattle.header.specs.Collected.{collects}
use Rattle.header.specs.declared.facts.Facts.{Facts}
use Rattle.header.specs.Facts.{header_of}
use Rattle.header.specs.Seen.{facts_said}
use Rattle.examples.specs.Starred.{order, agrees_in, at_x, Starred}

pub order_agrees : agrees_in (header_of order) ≡ Some true
unfolding header_of walked told cut texts collects known_as alike cfws quoted_rest dot_atom_rest addr_spec_of name_rest mailbox_of same_address distinct
order_agrees = refl

pub case_counts : same_address (at_x (codes "a")) (at_x (codes "A")) ≡ false
unfolding same_address alike
case_counts = refl

pub quotes_count : same_address (at_x (codes "a")) (at_x (codes "\"a\"")) ≡ false
unfolding same_address alike
quotes_count = refl

quotes_are_read : mailbox_list_of (codes "\"a\"@x.org") ≡ Some (at_x (codes "\"a\"") ∷ [])
unfolding cfws quoted_rest dot_atom_rest addr_spec_of name_rest mailbox_of
quotes_are_read = refl

pub stars : Starred
stars = record { order_agrees = order_agrees; case_counts = case_counts; quotes_count = quotes_count; quotes_are_read = quotes_are_read }

-- as the code tells
pub agrees_told : (r : Result Facts Refusal) → meaning facts_said r ≡ header_of order → MatchResult r (λ x. x.agrees ≡ true) (λ _. ⊥)
agrees_told (Ok x) e = let a : Some x.agrees ≡ Some true = ap agrees_in e ∙ order_agrees in cc
agrees_told (Err why) e = let a : None ≡ Some true = ap agrees_in e ∙ order_agrees in cc
