-- RFC 5322, section 3.2, without the obs- forms, in its order. A rule with a text x derives what has that text.
use Rattle.std.specs.Prelude.{ℕ, zero, suc, List}
use Rattle.fields.specs.Classes.{CR, LF, wsp}
use Rattle.fields.specs.Fields.{Placed}
use Rattle.abnf.specs.Abnf.{Rule, ◌⋅◌, ◌∕◌, star, plus, opt, byte, one, the, sized, nothing}
use Rattle.abnf.specs.Classes.{quotable, ctext, atext, qtext}

-- RFC 5234, appendix B.1
abbrev pub CRLF : Rule
CRLF = byte CR ⋅ byte LF

abbrev pub WSP : Rule
WSP = one wsp

abbrev pub DQUOTE : Rule
DQUOTE = byte 34

-- 3.2.1: "\" (VCHAR / WSP)
abbrev pub quoted_pair : Rule
quoted_pair = byte 92 ⋅ one quotable

-- 3.2.2: [*WSP CRLF] 1*WSP
abbrev pub FWS : Rule
FWS = opt (star WSP ⋅ CRLF) ⋅ plus WSP

-- 3.2.2, where the comments inside are by `inner`
abbrev pub ccontent : Rule → Rule
ccontent inner = one ctext ∕ quoted_pair ∕ inner

-- NARROWER: how deep comments may be nested
abbrev pub deepest : ℕ
deepest = 16

-- 3.2.2: "(" *([FWS] ccontent) [FWS] ")", nested at most d deep
abbrev pub comment : ℕ → Rule
comment zero = nothing
comment (suc d) = byte 40 ⋅ star (opt FWS ⋅ ccontent (comment d)) ⋅ opt FWS ⋅ byte 41

-- 3.2.2: (1*([FWS] comment) [FWS]) / FWS
abbrev pub CFWS : Rule
CFWS = (plus (opt FWS ⋅ comment deepest) ⋅ opt FWS) ∕ FWS

-- what has the text x, and optional white space on both sides
abbrev pub around : List ℕ → Rule → Rule
around x A = opt CFWS ⋅ the x A ⋅ opt CFWS

-- the same, which tells the place of the text too
abbrev pub around_at : Placed → Rule → Rule
around_at x A = sized x.at (opt CFWS) ⋅ the x.bytes A ⋅ opt CFWS

-- 3.2.3: [CFWS] 1*atext [CFWS]
abbrev pub atom_text : Rule
atom_text = plus (one atext)

abbrev pub atom : List ℕ → Rule
atom x = around x atom_text

-- 3.2.4
abbrev pub qcontent : Rule
qcontent = one qtext ∕ quoted_pair

-- 3.2.4: [CFWS] DQUOTE *([FWS] qcontent) [FWS] DQUOTE [CFWS]. The text is from quote to quote
abbrev pub quoted_text : Rule
quoted_text = DQUOTE ⋅ star (opt FWS ⋅ qcontent) ⋅ opt FWS ⋅ DQUOTE

abbrev pub quoted_string : List ℕ → Rule
quoted_string x = around x quoted_text

-- 3.2.5
abbrev pub word : List ℕ → Rule
word x = atom x ∕ quoted_string x
