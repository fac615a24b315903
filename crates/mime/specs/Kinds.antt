-- Which Content-Type is a disposition notification's: RFC 8098, section 3, and RFC 6522, section 3.
use Rattle.std.specs.Prelude.{ℕ, Bool, ◌&&◌, List, codes}
use Rattle.std.specs.List.{list_any}
use Rattle.mime.specs.Rfc2045.{Parameter, Content}
use Rattle.mime.specs.Values.{unquoted}
use Rattle.abnf.specs.Strings.{alike}

abbrev pub some : {X : Type 0} → (X → Bool) → List X → Bool
some = list_any

-- it says that the report is a notification
abbrev pub reports : Parameter → Bool
reports p = alike p.attribute (codes "report-type") && alike (unquoted p.value) (codes "disposition-notification")

abbrev pub is_report : List ℕ → List ℕ → Bool
is_report type subtype = alike type (codes "multipart") && alike subtype (codes "report")

abbrev pub notifies : Content → Bool
notifies c = is_report c.type c.subtype && some reports c.parameters
