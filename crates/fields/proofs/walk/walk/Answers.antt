use Rattle.std.proofs.Common.{rules, ◌≡◌, Ok, Err, Some, None, ap, ◌∙◌, arith}
use Rattle.fields.specs.declared.field.Fault.{Fault}
use Rattle.fields.specs.declared.refusal.Objection.{Objection}
use Rattle.fields.specs.declared.refusal.Refusal.TheVariants.{BadLine, Objected}
use Rattle.fields.specs.Lines.{texts}
use Rattle.fields.specs.Fields.{cut}
use Rattle.fields.specs.Seen.{placed_field}
use Rattle.fields.specs.Scans.{found, Ahead}
use Rattle.fields.specs.Walks.{meaning, place}
use Rattle.fields.proofs.Walking.{too_long, ends_whole, ends_at_fault, ends_crowded, ends_objected, comes_on}
use Rattle.fields.proofs.Accepting.{answered}
use Rattle.fields.proofs.walk.walk.Goals as goal

pub returns-then-input-gt-LONGEST_INPUT : goal.returns-then-input-gt-LONGEST_INPUT
returns-then-input-gt-LONGEST_INPUT g c =
    let C = g.C.Collector in
    let S = C.state c.args.collector in
    let input = c.args.input.now in
    answered C.step S c.args.form input _ (too_long C.step S c.args.form input (omega arith))

pub returns-in_err-front : goal.returns-in_err-front
returns-in_err-front g c =
    let C = g.C.Collector in
    let S = C.state c.args.collector in
    let input = c.args.input.now in
    let l = c.loop-collector in
    let state = C.state l.collector in
    let rest = l.rest.text.now in
    let r : (f : Fault) × (c.read_next.result ≡ Err f) × (c.from_residual.result ≡ Err (BadLine (place l.field f.byte))) = search rules in
    let first : cut c.args.form None l.rest.at (texts rest) ≡ found c.args.form (Err r.0) = search rules in
    answered C.step S c.args.form input _
    (ap (meaning C.state) r.2 ∙ ends_at_fault C.step S c.args.form input l.field state l.rest.at rest l.invariant (omega arith) r.0.byte first)

pub returns-then-field-gt-MOST_FIELDS : goal.returns-then-field-gt-MOST_FIELDS
returns-then-field-gt-MOST_FIELDS g c =
    let C = g.C.Collector in
    let S = C.state c.args.collector in
    let input = c.args.input.now in
    let l = c.loop-collector in
    let state = C.state l.collector in
    let rest = l.rest.text.now in
    let front = c.in-Some.front in
    let behind = cut c.args.form None front.rest.at (texts front.rest.text.now) in
    let first : cut c.args.form None l.rest.at (texts rest) ≡ found c.args.form (Ok (Some front)) = search rules in
    answered C.step S c.args.form input _
    (ends_crowded C.step S c.args.form input l.field state l.rest.at rest l.invariant (placed_field front.field) behind first (omega arith) (omega arith))

pub returns-in_err-map_err : goal.returns-in_err-map_err
returns-in_err-map_err g c =
    let C = g.C.Collector in
    let S = C.state c.args.collector in
    let input = c.args.input.now in
    let l = c.loop-collector in
    let state = C.state l.collector in
    let rest = l.rest.text.now in
    let front = c.in-Some.front in
    let behind = cut c.args.form None front.rest.at (texts front.rest.text.now) in
    let first : cut c.args.form None l.rest.at (texts rest) ≡ found c.args.form (Ok (Some front)) = search rules in
    let r : (why : Objection) × (c.take.result ≡ Err why) × (c.from_residual-in_err-map_err.result ≡ Err (Objected why (place l.field front.field.name.at))) = search rules in
    let why : Err r.0 ≡ C.step state (placed_field front.field) = search rules in
    answered C.step S c.args.form input _
    (ap (meaning C.state) r.2 ∙ ends_objected C.step S c.args.form input l.field state l.rest.at rest l.invariant (placed_field front.field) behind first (omega arith) (omega arith) r.0 why)

pub loop-collector-preserved : goal.loop-collector-preserved
loop-collector-preserved g c =
    let C = g.C.Collector in
    let S = C.state c.args.collector in
    let input = c.args.input.now in
    let l = c.loop-collector in
    let state = C.state l.collector in
    let rest = l.rest.text.now in
    let front = c.in-Some.front in
    let behind = cut c.args.form None front.rest.at (texts front.rest.text.now) in
    let first : cut c.args.form None l.rest.at (texts rest) ≡ found c.args.form (Ok (Some front)) = search rules in
    let ahead : Ahead l.rest (Ok (Some front)) = search rules in
    let took : Ok (C.state c.take.new.self) ≡ C.step state (placed_field front.field) = search rules in
    comes_on C.step S c.args.form input l.field state l.rest.at rest l.invariant (placed_field front.field) front.rest.at front.rest.text.now first ahead.1 (omega arith) (C.state c.take.new.self) took

pub returns : goal.returns
returns g c =
    let C = g.C.Collector in
    let S = C.state c.args.collector in
    let input = c.args.input.now in
    let l = c.loop-collector in
    let state = C.state l.collector in
    let rest = l.rest.text.now in
    let first : cut c.args.form None l.rest.at (texts rest) ≡ found c.args.form (Ok None) = search rules in
    answered C.step S c.args.form input _ (ends_whole C.step S c.args.form input l.field state l.rest.at rest l.invariant (omega arith) first)
