-- Bodies as they come, and what is made of them.
use Rattle.std.proofs.Common.{◌≡◌, ℕ, Bool, true, false, List, [], ◌∷◌, ◌++◌, Some, None, codes, Option, refl}
use Rattle.std.specs.Option.{option_map}
use Rattle.lexical.specs.Reads.{cfws, quoted_rest}
use Rattle.mime.specs.Values.{unquoted}
use Rattle.abnf.specs.Strings.{alike}
use Rattle.mime.specs.Kinds.{notifies}
use Rattle.mime.specs.Reads.{token_before, parameter_of, parameters_of, content_of}

abbrev CRLF : List ℕ
CRLF = 13 ∷ 10 ∷ []

-- ---- what values mean
folded_value : unquoted (codes "\"disposition\\-noti" ++ CRLF ++ codes " fication\"") ≡ codes "disposition-noti fication"
folded_value = refl

-- a quoted quote does not end it, and a CRLF that no white space follows stays
quoted_quote : unquoted (codes "\"a\\\"b" ++ CRLF ++ codes "c\\\\\"") ≡ codes "a\"b" ++ CRLF ++ codes "c\\"
quoted_quote = refl

plain_value : unquoted (codes "a\\b") ≡ codes "a\\b"
plain_value = refl

-- ---- whole bodies
unfoldable notified : List ℕ → Option Bool
notified s = option_map notifies (content_of s)

usual : notified (codes "multipart/report; report-type=disposition-notification; boundary=\"x\"") ≡ Some true
unfolding notified content_of parameters_of parameter_of token_before cfws quoted_rest alike
usual = refl

upper_case : notified (codes " MULTIPART/Report;REPORT-Type=Disposition-NOTIFICATION") ≡ Some true
unfolding notified content_of parameters_of parameter_of token_before cfws quoted_rest alike
upper_case = refl

-- the white space of a fold stays
quoted_folded : notified (codes "multipart/report; report-type=\"disposition\\-noti" ++ CRLF ++ codes " fication\"") ≡ Some false
unfolding notified content_of parameters_of parameter_of token_before cfws quoted_rest alike
quoted_folded = refl

quoted : notified (codes "multipart/report;" ++ CRLF ++ codes "\treport-type=\"disposition\\-notification\"") ≡ Some true
unfolding notified content_of parameters_of parameter_of token_before cfws quoted_rest alike
quoted = refl

comments : notified (codes "multipart (a(b) c) / report ; (d) report-type = disposition-notification (e\\))") ≡ Some true
unfolding notified content_of parameters_of parameter_of token_before cfws quoted_rest alike
comments = refl

-- one of several is enough
several : notified (codes "multipart/report; report-type=delivery-status; a=b; report-type=disposition-notification") ≡ Some true
unfolding notified content_of parameters_of parameter_of token_before cfws quoted_rest alike
several = refl

other_report : notified (codes "multipart/report; report-type=delivery-status") ≡ Some false
unfolding notified content_of parameters_of parameter_of token_before cfws quoted_rest alike
other_report = refl

other_type : notified (codes "multipart/mixed; report-type=disposition-notification") ≡ Some false
unfolding notified content_of parameters_of parameter_of token_before cfws quoted_rest alike
other_type = refl

bare : notified (codes "a/b") ≡ Some false
unfolding notified content_of parameters_of parameter_of token_before cfws quoted_rest alike
bare = refl

semicolon_last : notified (codes "text/plain;") ≡ None
unfolding notified content_of parameters_of parameter_of token_before cfws quoted_rest alike
semicolon_last = refl

no_value : notified (codes "a/b;c=") ≡ None
unfolding notified content_of parameters_of parameter_of token_before cfws quoted_rest alike
no_value = refl

quote_open : notified (codes "multipart/report;report-type=\"x") ≡ None
unfolding notified content_of parameters_of parameter_of token_before cfws quoted_rest alike
quote_open = refl

no_slash : notified (codes "text") ≡ None
unfolding notified content_of parameters_of parameter_of token_before cfws quoted_rest alike
no_slash = refl

two_subtypes : notified (codes "text/plain/x") ≡ None
unfolding notified content_of parameters_of parameter_of token_before cfws quoted_rest alike
two_subtypes = refl

empty : notified [] ≡ None
unfolding notified content_of parameters_of parameter_of token_before cfws quoted_rest alike
empty = refl
