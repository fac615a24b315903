-- What is collected of a header's fields, one after another.
use Rattle.std.specs.Prelude.{◌≡◌, Bool, true, false, cond, List, Some, None, Ok, Err, Option, Result}
use Rattle.std.specs.Option.{option_map}
use Rattle.fields.specs.declared.refusal.Objection.{Objection}
use Rattle.fields.specs.declared.refusal.Objection.TheVariants.{Repeated, Malformed}
use Rattle.fields.specs.Fields.{Placed, PlacedField}
use Rattle.fields.specs.Walks.{became}
use Rattle.lexical.specs.Spans.{moved}
use Rattle.address.specs.Rfc5322.{Addr}
use Rattle.address.specs.Reads.{path_of, msg_id_of}
use Rattle.address.specs.Lists.{mailbox_list_of}
use Rattle.mime.specs.Kinds.{notifies}
use Rattle.mime.specs.Reads.{content_of}
use Rattle.options.specs.Reads.{options_of, some_required}
use Rattle.texts.specs.Rfc8098.{Typed}
use Rattle.texts.specs.Reads.{typed_of}
use Rattle.texts.specs.Seen.{moved_typed}
use Rattle.header.specs.declared.known.Known.{Known}
use Rattle.header.specs.declared.known.Known.TheVariants.{ReturnPath, NotificationTo, NotificationOptions, OriginalRecipient, MessageId, ContentType, Other}
use Rattle.header.specs.Names.{known_as}

-- the Return-Paths so far
pub data Trace : Type 0 where
  never : Trace
  once : Option Addr → Trace
  again : Trace

-- one more
abbrev pub traced : Trace → Option Addr → Trace
traced never p = once p
traced (once q) p = again
traced again p = again

pub record Collected : Type 0 where
  pub trace : Trace
  -- the addresses of Disposition-Notification-To
  pub requests : Option (List Addr)
  -- whether some option is marked required
  pub required : Option Bool
  pub recipient : Option Typed
  pub identifier : Option Placed
  -- whether the Content-Type is a notification's
  pub notification : Option Bool

abbrev pub nothing_yet : Collected
nothing_yet = record { trace = never; requests = None; required = None; recipient = None; identifier = None; notification = None }

abbrev pub is_there : {A : Type 0} → Option A → Bool
is_there None = false
is_there (Some x) = true

-- a field of this name is there that may stand once only
abbrev pub filled : Collected → Known → Bool
filled c ReturnPath = false
filled c NotificationTo = is_there c.requests
filled c NotificationOptions = is_there c.required
filled c OriginalRecipient = is_there c.recipient
filled c MessageId = is_there c.identifier
filled c ContentType = is_there c.notification
filled c Other = false

-- what was read of a body, or the objection that it is outside its grammar
abbrev pub in_grammar : {A : Type 0} → Option A → Result A Objection
in_grammar None = Err Malformed
in_grammar (Some x) = Ok x

-- what comes of a body that is read for a slot, whose field may stand once: a filled slot stays as it is and nothing is
-- read, an empty one then holds what was read
abbrev pub EntersOnce : {A : Type 0} → Option A → (Option A → Type 0) → Result Unit Objection → Option A → Type 0
EntersOnce (Some x) Reads r slot = (r ≡ Err Repeated) × (slot ≡ Some x)
EntersOnce None Reads r slot = (r ≡ became (in_grammar slot) tt) × Reads slot

-- what was read of a body, put to the rest, or the objection that it is outside its grammar
abbrev pub put : {A : Type 0} → Option A → (A → Collected) → Result Collected Objection
put None to = Err Malformed
put (Some x) to = Ok (to x)

-- with what a body says put in
abbrev pub with_path : Collected → Option Addr → Collected
with_path c p = record { trace = traced c.trace p; requests = c.requests; required = c.required; recipient = c.recipient; identifier = c.identifier; notification = c.notification }

abbrev pub with_requests : Collected → List Addr → Collected
with_requests c xs = record { trace = c.trace; requests = Some xs; required = c.required; recipient = c.recipient; identifier = c.identifier; notification = c.notification }

abbrev pub with_required : Collected → Bool → Collected
with_required c q = record { trace = c.trace; requests = c.requests; required = Some q; recipient = c.recipient; identifier = c.identifier; notification = c.notification }

abbrev pub with_recipient : Collected → Typed → Collected
with_recipient c t = record { trace = c.trace; requests = c.requests; required = c.required; recipient = Some t; identifier = c.identifier; notification = c.notification }

abbrev pub with_identifier : Collected → Placed → Collected
with_identifier c i = record { trace = c.trace; requests = c.requests; required = c.required; recipient = c.recipient; identifier = Some i; notification = c.notification }

abbrev pub with_notification : Collected → Bool → Collected
with_notification c q = record { trace = c.trace; requests = c.requests; required = c.required; recipient = c.recipient; identifier = c.identifier; notification = Some q }

-- the body of a field of this name
abbrev pub entered : Known → Collected → Placed → Result Collected Objection
entered ReturnPath c b = put (path_of b.bytes) (with_path c)
entered NotificationTo c b = put (mailbox_list_of b.bytes) (with_requests c)
entered NotificationOptions c b = put (option_map some_required (options_of b.bytes)) (with_required c)
entered OriginalRecipient c b = put (option_map (moved_typed b.at) (typed_of b.bytes)) (with_recipient c)
entered MessageId c b = put (option_map (moved b.at) (msg_id_of b.bytes)) (with_identifier c)
entered ContentType c b = put (option_map notifies (content_of b.bytes)) (with_notification c)
entered Other c b = Ok c

-- a field told to the collector: a second one of a name that may stand once is refused before its body is looked at
unfoldable pub collects : Collected → PlacedField → Result Collected Objection
collects c f =
    let k = known_as f.name.bytes in
    let more = entered k c f.body in
    cond (filled c k) (Err Repeated) more
