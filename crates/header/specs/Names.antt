-- The fields of a header that say something of receipts. The case of ASCII letters in a name does not count.
use Rattle.std.specs.Prelude.{ℕ, cond, List, codes}
use Rattle.abnf.specs.Strings.{alike}
use Rattle.header.specs.declared.known.Known.{Known}
use Rattle.header.specs.declared.known.Known.TheVariants.{ReturnPath, NotificationTo, NotificationOptions, OriginalRecipient, MessageId, ContentType, Other}

unfoldable pub known_as : List ℕ → Known
known_as name =
    cond (alike name (codes "Return-Path")) ReturnPath
    (cond (alike name (codes "Disposition-Notification-To")) NotificationTo
    (cond (alike name (codes "Disposition-Notification-Options")) NotificationOptions
    (cond (alike name (codes "Original-Recipient")) OriginalRecipient
    (cond (alike name (codes "Message-ID")) MessageId
    (cond (alike name (codes "Content-Type")) ContentType Other)))))
