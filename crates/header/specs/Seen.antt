-- What the code keeps and answers, as the definitions speak of it.
use Rattle.std.specs.Option.{option_map}
use Rattle.fields.specs.Seen.{placed}
use Rattle.address.specs.Seen.{listing, path_told}
use Rattle.texts.specs.Seen.{typed}
use Rattle.header.specs.declared.collecting.Returned.{Returned}
use Rattle.header.specs.declared.collecting.Returned.TheVariants.{Never, Once, Again}
use Rattle.header.specs.declared.collecting.Collecting.{Collecting}
use Rattle.header.specs.declared.facts.Facts.{Facts}
use Rattle.header.specs.Collected.{Trace, never, once, again, Collected}
use Rattle.header.specs.Facts.{Said}

abbrev pub trace_of : Returned → Trace
trace_of Never = never
trace_of (Once p) = once (path_told p)
trace_of Again = again

abbrev pub collected : Collecting → Collected
collected c = record {
  trace = trace_of c.returned;
  requests = option_map listing c.requests;
  required = c.required;
  recipient = option_map typed c.recipient;
  identifier = option_map placed c.message_id;
  notification = c.notification;
}

abbrev pub facts_said : Facts → Said
facts_said f = record {
  asks = f.asks;
  notification = f.notification;
  required = f.required;
  distinct_requests = f.distinct;
  agrees = f.agrees;
  recipient = option_map typed f.original_recipient;
  identifier = option_map placed f.message_id;
}
