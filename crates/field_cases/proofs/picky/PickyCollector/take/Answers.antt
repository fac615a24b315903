use Rattle.fields.specs.Seen.{placed_field}
use Rattle.field_cases.specs.Picks.{last_of}
use Rattle.field_cases.proofs.Picking.{picked}
use Rattle.field_cases.proofs.picky.PickyCollector.take.Goals as goal

pub returns : goal.returns
returns c = picked (last_of c.args.self.now) (placed_field c.args.field) c.if-is_name.ensures
