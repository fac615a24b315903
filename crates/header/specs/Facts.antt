-- What a header says of receipts.
use Rattle.std.specs.Prelude.{ℕ, ◌+◌, Bool, false, cond, ◌&&◌, List, [], ◌∷◌, length, take, drop, Some, None, Err, Option, Result, ◌==◌, nat_le}
use Rattle.fields.specs.declared.field.Form.TheVariants.{Header}
use Rattle.fields.specs.declared.refusal.Refusal.{Refusal}
use Rattle.fields.specs.declared.refusal.Refusal.TheVariants.{TooLong}
use Rattle.fields.specs.Fields.{Placed}
use Rattle.fields.specs.Walks.{meaning, walked}
use Rattle.address.specs.Rfc5322.{Addr}
use Rattle.texts.specs.Rfc8098.{Typed}
use Rattle.equality.specs.Equality.{same_address}
use Rattle.equality.specs.Distinct.{distinct}
use Rattle.header.specs.Collected.{Trace, never, once, again, Collected, nothing_yet, is_there, collects}

pub record Said : Type 0 where
  -- a receipt is asked for
  pub asks : Bool
  -- the message is a disposition notification itself
  pub notification : Bool
  -- some option is marked required
  pub required : Bool
  -- the number of different addresses that ask
  pub distinct_requests : ℕ
  -- there is one, and it is the one address of the one Return-Path
  pub agrees : Bool
  pub recipient : Option Typed
  pub identifier : Option Placed

abbrev pub is_so : Option Bool → Bool
is_so None = false
is_so (Some b) = b

abbrev pub distinct_of : Option (List Addr) → ℕ
distinct_of None = 0
distinct_of (Some xs) = distinct xs

-- the first address is that of the one Return-Path
abbrev pub leads_to : List Addr → Trace → Bool
leads_to [] t = false
leads_to (a ∷ others) never = false
leads_to (a ∷ others) (once None) = false
leads_to (a ∷ others) (once (Some p)) = same_address a p
leads_to (a ∷ others) again = false

abbrev pub returns_to : Option (List Addr) → Trace → Bool
returns_to None t = false
returns_to (Some xs) t = leads_to xs t

abbrev pub said : Collected → Said
said c = record {
  asks = is_there c.requests;
  notification = is_so c.notification;
  required = is_so c.required;
  distinct_requests = distinct_of c.requests;
  agrees = distinct_of c.requests == 1 && returns_to c.requests c.trace;
  recipient = c.recipient;
  identifier = c.identifier;
}

-- what a header says, or why it is refused
unfoldable pub header_of : List ℕ → Result Said Refusal
header_of s = meaning said (walked collects nothing_yet Header s)

-- the same of the header of `size` bytes from byte `start` of the spool on; one that reaches beyond it is too long
abbrev pub header_at : List ℕ → ℕ → ℕ → Result Said Refusal
header_at spool start size =
    let inside = header_of (take size (drop start spool)) in
    cond (nat_le (start + size) (length spool)) inside (Err TooLong)
