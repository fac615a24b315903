-- Addresses of the code, as the definitions speak of them.
use Rattle.std.specs.Prelude.{List, Option}
use Rattle.std.specs.Option.{option_map}
use Rattle.address.specs.declared.addr_spec.Address.{Address}
use Rattle.lexical.specs.declared.span.Taken.{Taken}
use Rattle.address.specs.declared.mailbox.Mailboxes.{Mailboxes}
use Rattle.address.specs.declared.mailbox.First.{First}
use Rattle.address.specs.declared.path.Path.{Path}
use Rattle.address.specs.Rfc5322.{Addr}
use Rattle.address.specs.Reads.{Found}
use Rattle.address.specs.Lists.{addresses}

abbrev pub addr : Address → Addr
addr a = record { local = a.local.now; domain = a.domain.now }

abbrev pub found : Taken Address → Found
found t = record { address = addr t.value; rest = t.rest.now }

abbrev pub listing : Mailboxes → List Addr
listing m = addresses m.text.now

abbrev pub first_of : First → Addr × List Addr
first_of f = (addr f.address, listing f.others)

abbrev pub path_told : Path → Option Addr
path_told p = option_map addr p.to
