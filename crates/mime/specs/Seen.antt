-- The code's own values, as the definitions speak of them.
use Rattle.std.specs.Prelude.{List, ℕ}
use Rattle.std.specs.Borrow.{Bor}
use Rattle.lexical.specs.declared.span.Taken.{Taken}
use Rattle.mime.specs.declared.content.Parameter.{Parameter}
use Rattle.mime.specs.Rfc2045 as rfc
use Rattle.mime.specs.Reads.{Read}
use Rattle.mime.specs.Reads as reads

abbrev pub text : Taken (Bor (List ℕ)) → reads.Text
text t = record { text = t.value.now; rest = t.rest.now }

abbrev pub said : Parameter → rfc.Parameter
said p = record { attribute = p.attribute.now; value = p.value.now }

abbrev pub read : Taken Parameter → Read
read t = record { parameter = said t.value; rest = t.rest.now }
