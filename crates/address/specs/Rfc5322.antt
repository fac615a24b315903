-- RFC 5322, sections 3.2.3, 3.2.5, 3.4, 3.6.4 and 3.6.7, without the obs- forms and in its order.
use Rattle.std.specs.Prelude.{ℕ, ◌≤◌, List, [], ◌∷◌, length, Some, None, Option}
use Rattle.fields.specs.Fields.{Placed}
use Rattle.abnf.specs.Abnf.{Rule, ◌⋅◌, ◌∕◌, star, plus, opt, byte, one, each, nothing}
use Rattle.abnf.specs.Classes.{atext, dtext}
use Rattle.lexical.specs.Rfc5322.{CFWS, around, around_at, quoted_string, word}

-- 3.2.3: 1*atext *("." 1*atext)
abbrev pub dot_atom_text : Rule
dot_atom_text = plus (one atext) ⋅ star (byte 46 ⋅ plus (one atext))

abbrev pub dot_atom : List ℕ → Rule
dot_atom x = around x dot_atom_text

-- 3.2.5: 1*word
abbrev pub phrase : Rule
phrase = plus (λ w. (x : List ℕ) × word x w)

-- an address tells its local part and its domain, each as written without the white space around it
pub record Addr : Type 0 where
  pub local : List ℕ
  pub domain : List ℕ

-- 3.4.1. NARROWER: no white space stands inside
abbrev pub literal_text : Rule
literal_text = byte 91 ⋅ star (one dtext) ⋅ byte 93

abbrev pub domain_literal : List ℕ → Rule
domain_literal x = around x literal_text

-- 3.4.1
abbrev pub local_part : List ℕ → Rule
local_part x = dot_atom x ∕ quoted_string x

abbrev pub domain_part : List ℕ → Rule
domain_part x = dot_atom x ∕ domain_literal x

abbrev pub addr_spec : Addr → Rule
addr_spec a = local_part a.local ⋅ byte 64 ⋅ domain_part a.domain

-- 3.4: [CFWS] "<" addr-spec ">" [CFWS]
abbrev pub angle_addr : Addr → Rule
angle_addr a = opt CFWS ⋅ byte 60 ⋅ addr_spec a ⋅ byte 62 ⋅ opt CFWS

-- 3.4: [display-name] angle-addr
abbrev pub name_addr : Addr → Rule
name_addr a = opt phrase ⋅ angle_addr a

abbrev pub mailbox : Addr → Rule
mailbox a = name_addr a ∕ addr_spec a

-- NARROWER: how many addresses a list may have
abbrev pub most_addresses : ℕ
most_addresses = 16

-- 3.4: mailbox *("," mailbox)
abbrev pub mailbox_list : List Addr → Rule
mailbox_list [] w = nothing w
mailbox_list (a ∷ others) w = (length (a ∷ others) ≤ most_addresses) × (mailbox a ⋅ each (λ b. byte 44 ⋅ mailbox b) others) w

-- 3.6.4
abbrev pub id_right : Rule
id_right = dot_atom_text ∕ literal_text

abbrev pub msg_id_text : Rule
msg_id_text = byte 60 ⋅ dot_atom_text ⋅ byte 64 ⋅ id_right ⋅ byte 62

-- 3.6.4: [CFWS] "<" id-left "@" id-right ">" [CFWS], which tells what stands from "<" to ">", and its place
abbrev pub msg_id : Placed → Rule
msg_id x = around_at x msg_id_text

-- 3.6.7: angle-addr / ([CFWS] "<" [CFWS] ">" [CFWS]), which tells the address, if there is one
abbrev pub path : Option Addr → Rule
path (Some a) w = angle_addr a w
path None w = (opt CFWS ⋅ byte 60 ⋅ opt CFWS ⋅ byte 62 ⋅ opt CFWS) w
