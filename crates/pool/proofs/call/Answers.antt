-- `pool::call`: the word of an open call.
use native.Mathlib.Omega.{arith}
use Rattle.pool.proofs.Readers.{calls-le, call_at}
use Rattle.pool.proofs.call.Goals as goal

pub byte_at-requires : goal.byte_at-requires
byte_at-requires c = omega (arith, c.requires, calls-le c.args.ws.now c.args.at)

pub returns : goal.returns
returns c = call_at c.args.ws.now c.args.at c.args.n c.requires.1 c.byte_at.ensures
