-- `valid::zeros`: the words before i are 0 where their bits are.
use mathlib.Core.Path.{◌≡◌}
use mathlib.Core.Bool.{◌&&◌}
use lib.Dec.{eqb}
use lib.ListN.{drop}
use Rattle.model.specs.Lists.{all}
use Rattle.valid.specs.Judged.{is_zero}
use Rattle.valid.proofs.zeros.Given as goal

abbrev pub invariant-loop-w : goal.invariant-loop-w
invariant-loop-w l = all is_zero l.ws ≡ (eqb l.bits 0 && all is_zero (drop l.w-index l.ws))
