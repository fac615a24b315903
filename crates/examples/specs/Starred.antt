-- The examples that are proved. Later ones join the record.
use Rattle.std.specs.Prelude.{◌≡◌, ℕ, Bool, true, false, List, [], ◌∷◌, ◌++◌, Some, None, Ok, Err, codes, Option, Result}
use Rattle.fields.specs.declared.refusal.Refusal.{Refusal}
use Rattle.address.specs.Rfc5322.{Addr}
use Rattle.address.specs.Lists.{mailbox_list_of}
use Rattle.equality.specs.Equality.{same_address}
use Rattle.header.specs.Facts.{Said, header_of}

-- a line of a header
abbrev pub line : List ℕ → List ℕ → List ℕ
line text more = text ++ 13 ∷ 10 ∷ more

-- a work order that asks for a receipt
abbrev pub order : List ℕ
order = line (codes "Return-Path: <a@x.org>") (line (codes "Disposition-Notification-To: a@X.org") [])

abbrev pub agrees_in : Result Said Refusal → Option Bool
agrees_in (Ok s) = Some s.agrees
agrees_in (Err why) = None

-- this local part at x.org
abbrev pub at_x : List ℕ → Addr
at_x local = record { local = local; domain = codes "x.org" }

pub record Starred : Type 0 where
  -- the domains differ in case alone
  pub order_agrees : agrees_in (header_of order) ≡ Some true
  -- `a@x.org` is not `A@x.org`
  pub case_counts : same_address (at_x (codes "a")) (at_x (codes "A")) ≡ false
  -- nor is it `"a"@x.org`, whose quotes belong to its local part
  pub quotes_count : same_address (at_x (codes "a")) (at_x (codes "\"a\"")) ≡ false
  pub quotes_are_read : mailbox_list_of (codes "\"a\"@x.org") ≡ Some (at_x (codes "\"a\"") ∷ [])
