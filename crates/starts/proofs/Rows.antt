-- Rows, by computation: the first lines and the last ones.
use mathlib.Core.Path.{◌≡◌, refl}
use lib.ListN.{take, drop}
use Rattle.model.specs.Lists.{concat}
use Rattle.model.specs.Text.{ascii, decimal, decimal_in}
use Rattle.starts.specs.Starts.{in_turn, starts, printed}

pub begins : take 20 printed ≡ ascii "4\n30\n56\n82\n108\n134\n1"
unfolding in_turn starts printed concat decimal decimal_in
begins = refl

pub ends : drop 257 printed ≡ ascii "1585\n1611\n1637\n1663\n"
unfolding in_turn starts printed concat decimal decimal_in
ends = refl
