-- `mezdaulk_beat` meets its contract: a beat makes fewer promotions than there can be threads.
use native.Mathlib.Omega.{arith}
use Rattle.mezdaulk.proofs.Codes.{few-promotions}
use Rattle.mezdaulk.proofs.mezdaulk_beat.Goals as goal

pub overflow_mul-beaten : goal.overflow_mul-beaten
overflow_mul-beaten c = record { fits = omega (arith, few-promotions _ _ _ _ _ c.in-Ok.beaten c.in-Ok.ensures) }

pub overflow_add-beaten : goal.overflow_add-beaten
overflow_add-beaten c = record { fits = omega (arith, few-promotions _ _ _ _ _ c.in-Ok.beaten c.in-Ok.ensures) }
