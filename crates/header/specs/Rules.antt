-- What a header says, by the rules of the RFCs for the bodies of its fields.
use Rattle.std.specs.Prelude.{◌≡◌, ℕ, true, false, List, [], ◌∷◌, Some, Ok, Option, Result}
use Rattle.fields.specs.declared.field.Form.TheVariants.{Header}
use Rattle.fields.specs.declared.refusal.Refusal.{Refusal}
use Rattle.fields.specs.Fields.{Placed, PlacedField}
use Rattle.fields.specs.Built.{Input}
use Rattle.lexical.specs.Spans.{moved}
use Rattle.address.specs.Rfc5322.{Addr, path, mailbox_list, msg_id}
use Rattle.mime.specs.Rfc2045.{Content, content}
use Rattle.mime.specs.Kinds.{notifies}
use Rattle.options.specs.Rfc8098.{Series, Parameter, options_body}
use Rattle.options.specs.Reads.{some_required}
use Rattle.texts.specs.Rfc8098.{Typed, typed_text}
use Rattle.texts.specs.Seen.{moved_typed}
use Rattle.equality.specs.Equality.{same_address}
use Rattle.equality.specs.Distinct.{In}
use Rattle.header.specs.declared.known.Known.{Known}
use Rattle.header.specs.declared.known.Known.TheVariants.{ReturnPath, NotificationTo, NotificationOptions, OriginalRecipient, MessageId, ContentType, Other}
use Rattle.header.specs.Names.{known_as}
use Rattle.header.specs.Collected.{once, Collected, nothing_yet, filled, with_path, with_requests, with_required, with_recipient, with_identifier, with_notification}
use Rattle.header.specs.Facts.{Said, said}

-- the body of a field of this name makes d of c: it is derived by its rule, and d has what it tells
abbrev pub Makes : Known → Collected → Placed → Collected → Type 0
Makes ReturnPath c b d = (p : Option Addr) × path p b.bytes × (d ≡ with_path c p)
Makes NotificationTo c b d = (xs : List Addr) × mailbox_list xs b.bytes × (d ≡ with_requests c xs)
Makes NotificationOptions c b d = (ps : Series Parameter) × options_body ps b.bytes × (d ≡ with_required c (some_required ps))
Makes OriginalRecipient c b d = (t : Typed) × typed_text t b.bytes × (d ≡ with_recipient c (moved_typed b.at t))
Makes MessageId c b d = (i : Placed) × msg_id i b.bytes × (d ≡ with_identifier c (moved b.at i))
Makes ContentType c b d = (t : Content) × content t b.bytes × (d ≡ with_notification c (notifies t))
Makes Other c b d = d ≡ c

-- a field makes d of c: none of its name is there that may stand once only
abbrev pub Tells : Collected → PlacedField → Collected → Type 0
Tells c f d = (filled c (known_as f.name.bytes) ≡ false) × Makes (known_as f.name.bytes) c f.body d

-- one field after another
pub data AllTell : Collected → List PlacedField → Collected → Type 0 where
  told_all : {c : Collected} → AllTell c [] c
  one_told : {c d e : Collected} {f : PlacedField} {fs : List PlacedField} → Tells c f d → AllTell d fs e → AllTell c (f ∷ fs) e

-- r is what the header s says: s is accepted exactly if it is built of fields whose bodies the rules derive, and then it
-- says what they tell
pub record SaysExactly (s : List ℕ) (r : Result Said Refusal) : Type 0 where
  pub accepted : (x : Said) → r ≡ Ok x → (fs : List PlacedField) × (c : Collected) × Input Header fs s × AllTell nothing_yet fs c × (x ≡ said c)
  pub told : (fs : List PlacedField) (c : Collected) → Input Header fs s → AllTell nothing_yet fs c → r ≡ Ok (said c)

-- agrees in other words: some address asks, there is just one Return-Path, and all that ask are its address
pub record Agreeing (c : Collected) : Type 0 where
  pub first : Addr
  pub others : List Addr
  pub address : Addr
  pub asked : c.requests ≡ Some (first ∷ others)
  pub returned : c.trace ≡ once (Some address)
  pub all_the_same : (a : Addr) → In a (first ∷ others) → same_address a address ≡ true

abbrev pub AgreesMeans : Type 0
AgreesMeans = (c : Collected) → ((said c).agrees ≡ true → Agreeing c) × (Agreeing c → (said c).agrees ≡ true)
