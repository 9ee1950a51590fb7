use Rattle.typed_path.specs.views.TypedViews.{owned_bytes}
use Rattle.typed_path_c.proofs.Crossed.{made_crossed}
use Rattle.typed_path_c.proofs.status.put_crossed.Goals as goal

pub returns-clause-put : goal.returns-clause-put
returns-clause-put c answer is why = made_crossed _ _ _ _ _ owned_bytes c.args.made answer is why c.put_made.ensures.put
