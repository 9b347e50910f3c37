-- `complete::put_spawns` meets its contract.
use Rattle.std.proofs.Common.{rules}
use Rattle.model.specs.Write as Write
use Rattle.complete.proofs.Placed.{all-put, spawns-few}
use Rattle.complete.proofs.put_spawns.Goals as goal

pub returns : goal.returns
returns c =
    all-put c.args.s.now c.args.places.now c.args.f Write.spawn_call (λ F. F.spawns) (λ i d k r d' p. search rules)
    spawns-few c.put_each.ensures
