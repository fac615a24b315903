-- The collector takes what the rules derive.
use Rattle.std.proofs.Common.{◌≡◌, ℕ, suc, true, List, [], ◌∷◌, Some, None, Ok, Err, Option, Result, sym, refl, ap, ◌∙◌, subst}
use Rattle.std.proofs.lemmas.Bool.{cond_both, cond-false, and_parts}
use Rattle.fields.specs.declared.field.Form.TheVariants.{Header}
use Rattle.fields.specs.declared.refusal.Objection.{Objection}
use Rattle.fields.specs.declared.refusal.Objection.TheVariants.{Repeated}
use Rattle.fields.specs.declared.refusal.Refusal.{Refusal}
use Rattle.fields.specs.Fields.{Placed, PlacedField, Cut}
use Rattle.fields.specs.Clean.{clean, all_clean}
use Rattle.fields.specs.Walks.{meaning, place, taken, walked}
use Rattle.fields.specs.Built.{all_told, Input, WalkExactly}
use Rattle.fields.proofs.Accepting.{walk_exactly}
use Rattle.fields.proofs.Cleaning.{fields_clean}
use Rattle.abnf.specs.Abnf.{Rule}
use Rattle.abnf.specs.Exact.{Exactly, itself}
use Rattle.lexical.specs.Spans.{moved}
use Rattle.address.specs.Rfc5322.{path, mailbox_list, msg_id}
use Rattle.address.specs.Paths.{path_exact, msg_id_exact}
use Rattle.address.proofs.Lists.{list_exact}
use Rattle.mime.specs.Rfc2045.{content}
use Rattle.mime.specs.Kinds.{notifies}
use Rattle.mime.proofs.Grammar.{content_exact}
use Rattle.options.specs.Rfc8098.{options_body}
use Rattle.options.specs.Reads.{some_required}
use Rattle.options.proofs.Bodies.{options_exact}
use Rattle.texts.specs.Rfc8098.{typed_text}
use Rattle.texts.specs.Seen.{moved_typed}
use Rattle.texts.proofs.Typing.{typed_exact}
use Rattle.header.specs.declared.known.Known.{Known}
use Rattle.header.specs.declared.known.Known.TheVariants.{ReturnPath, NotificationTo, NotificationOptions, OriginalRecipient, MessageId, ContentType, Other}
use Rattle.header.specs.Names.{known_as}
use Rattle.header.specs.Collected.{Collected, nothing_yet, filled, put, with_path, with_requests, with_required, with_recipient, with_identifier, with_notification, entered, collects}
use Rattle.header.specs.Facts.{Said, said, header_of}
use Rattle.header.specs.Rules.{Makes, Tells, AllTell, told_all, one_told, SaysExactly}

-- ---- one body
put_out : {X Y : Type 0} (R : X → Rule) (f : X → Y) (s : List ℕ) (o : Option Y) (to : Y → Collected) (d : Collected) → Exactly R f s o → put o to ≡ Ok d → (x : X) × R x s × (d ≡ to (f x))
put_out R f s None to d x e = cc
put_out R f s (Some y) to d x e =
    let t = x.derived y refl in
    (t.0, t.1, cc)

put_in : {X Y : Type 0} (R : X → Rule) (f : X → Y) (s : List ℕ) (o : Option Y) (to : Y → Collected) (d : Collected) → Exactly R f s o → ((x : X) × R x s × (d ≡ to (f x))) → put o to ≡ Ok d
put_in R f s o to d x t = rw (x.answered t.0 t.1, t.2) refl

makes_out : (k : Known) (c d : Collected) (b : Placed) → clean b.bytes ≡ true → entered k c b ≡ Ok d → Makes k c b d
makes_out ReturnPath c d b w e = put_out path itself b.bytes _ (with_path c) d (path_exact b.bytes _ refl) e
makes_out NotificationTo c d b w e = put_out mailbox_list itself b.bytes _ (with_requests c) d (list_exact b.bytes _ refl w) e
makes_out NotificationOptions c d b w e = put_out options_body some_required b.bytes _ (with_required c) d (options_exact b.bytes _ refl w) e
makes_out OriginalRecipient c d b w e = put_out typed_text (moved_typed b.at) b.bytes _ (with_recipient c) d (typed_exact b.at b.bytes _ refl w) e
makes_out MessageId c d b w e = put_out msg_id (moved b.at) b.bytes _ (with_identifier c) d (msg_id_exact b.at b.bytes _ refl) e
makes_out ContentType c d b w e = put_out content notifies b.bytes _ (with_notification c) d (content_exact b.bytes notifies _ refl) e
makes_out Other c d b w e = cc

makes_in : (k : Known) (c d : Collected) (b : Placed) → clean b.bytes ≡ true → Makes k c b d → entered k c b ≡ Ok d
makes_in ReturnPath c d b w t = put_in path itself b.bytes _ (with_path c) d (path_exact b.bytes _ refl) t
makes_in NotificationTo c d b w t = put_in mailbox_list itself b.bytes _ (with_requests c) d (list_exact b.bytes _ refl w) t
makes_in NotificationOptions c d b w t = put_in options_body some_required b.bytes _ (with_required c) d (options_exact b.bytes _ refl w) t
makes_in OriginalRecipient c d b w t = put_in typed_text (moved_typed b.at) b.bytes _ (with_recipient c) d (typed_exact b.at b.bytes _ refl w) t
makes_in MessageId c d b w t = put_in msg_id (moved b.at) b.bytes _ (with_identifier c) d (msg_id_exact b.at b.bytes _ refl) t
makes_in ContentType c d b w t = put_in content notifies b.bytes _ (with_notification c) d (content_exact b.bytes notifies _ refl) t
makes_in Other c d b w t = cc

-- ---- one field
tells_out : (c d : Collected) (f : PlacedField) → clean f.body.bytes ≡ true → collects c f ≡ Ok d → Tells c f d
unfolding collects
tells_out c d f w e =
    let k = known_as f.name.bytes in
    cond_both (filled c k) (Err Repeated) (entered k c f.body) (λ r. r ≡ Ok d → Tells c f d)
    (λ _ q. cc)
    (λ h q. (h, makes_out k c d f.body w q))
    e

tells_in : (c d : Collected) (f : PlacedField) → clean f.body.bytes ≡ true → Tells c f d → collects c f ≡ Ok d
unfolding collects
tells_in c d f w t =
    let k = known_as f.name.bytes in
    cond-false (filled c k) (Err Repeated) (entered k c f.body) t.0 ∙ makes_in k c d f.body w t.1

-- ---- all fields
all_out : (n : ℕ) (c d : Collected) (fs : List PlacedField) → all_clean fs ≡ true → all_told collects n c fs ≡ Ok d → AllTell c fs d
all_out n c d [] w e = subst (λ x. AllTell c [] x) (cc) told_all
all_out n c d (f ∷ fs) w e =
    let p = and_parts (clean f.body.bytes) (all_clean fs) w in
    go (λ x q. tells_out c x f p.0 q) (λ x q. all_out (suc n) x d fs p.1 q) (collects c f) refl e
  where
    go : ((x : Collected) → collects c f ≡ Ok x → Tells c f x) → ((x : Collected) → all_told collects (suc n) x fs ≡ Ok d → AllTell x fs d) → (o : Result Collected Objection) → collects c f ≡ o → taken o (place n f.name.at) (λ t. all_told collects (suc n) t fs) ≡ Ok d → AllTell c (f ∷ fs) d
    go one rest (Ok x) q r = one_told (one x q) (rest x r)
    go one rest (Err why) q r = cc

all_in : {c d : Collected} {fs : List PlacedField} (n : ℕ) → all_clean fs ≡ true → AllTell c fs d → all_told collects n c fs ≡ Ok d
all_in n w told_all = refl
all_in {c = c} n w (one_told {d = d} {f = f} {fs = fs} t r) =
    let p = and_parts (clean f.body.bytes) (all_clean fs) w in
    ap (λ o. taken o (place n f.name.at) (λ x. all_told collects (suc n) x fs)) (tells_in c d f p.0 t) ∙ all_in (suc n) p.1 r

-- ---- the header
meaning_ok : {A B E : Type 0} (f : A → B) (r : Result A E) (y : B) → meaning f r ≡ Ok y → (x : A) × (r ≡ Ok x) × (y ≡ f x)
meaning_ok f (Ok x) y e = (x, refl, cc)
meaning_ok f (Err why) y e = cc

pub says_exactly : (s : List ℕ) (r : Result Said Refusal) → r ≡ header_of s → SaysExactly s r
unfolding header_of
says_exactly s r e =
    let w : WalkExactly collects nothing_yet Header s (walked collects nothing_yet Header s) = walk_exactly collects nothing_yet Header s _ refl in
    let cleaned : (fs : List PlacedField) → Input Header fs s → all_clean fs ≡ true = λ fs i. subst (λ (x : Cut). all_clean x.fields ≡ true) (w.cuts.built fs i.is_built) (fields_clean Header s) in
    record {
      accepted = λ x q.
          let m = meaning_ok said (walked collects nothing_yet Header s) x (sym e ∙ q) in
          let a = w.accepted m.0 m.1 in
          (a.0, m.0, a.1, all_out 1 nothing_yet m.0 a.0 (cleaned a.0 a.1) a.2, m.2);
      told = λ fs c i t. e ∙ ap (meaning said) (w.tells fs i ∙ all_in 1 (cleaned fs i) t);
    }
