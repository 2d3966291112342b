-- A letter is a left descent exactly where its height is negative.
use Rattle.cox_reflect.proofs.HeightsUnderLetters.{descent_from_heights, heights_at_descent}
use Rattle.cox_reflect.proofs.heights.Heights.is_descent.Goals as goal

pub returns : goal.returns
returns c = λ A u g l a. (
  λ h. descent_from_heights A g u c.args.self.now.values c.args.s a l (c.is_negative.ensures.0 h),
  λ d. c.is_negative.ensures.1 (heights_at_descent A g u c.args.self.now.values c.args.s a d),
)
