-- Typed texts of the code, as the definitions speak of them.
use Rattle.std.specs.Prelude.{ℕ}
use Rattle.fields.specs.Seen.{placed}
use Rattle.lexical.specs.Spans.{moved}
use Rattle.texts.specs.declared.typed.TypedText.{TypedText}
use Rattle.texts.specs.Rfc8098.{Typed}

abbrev pub typed : TypedText → Typed
typed t = record { kind = placed t.kind; text = placed t.text }

-- those of a part of the input, with their places in the input
abbrev pub moved_typed : ℕ → Typed → Typed
moved_typed at t = record { kind = moved at t.kind; text = moved at t.text }
