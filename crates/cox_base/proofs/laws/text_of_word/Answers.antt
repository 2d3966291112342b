-- The law `text_of_word`.
use Rattle.cox_base.proofs.WordTexts.{text-read}
use Rattle.cox_base.proofs.laws.text_of_word.Goals as goal

pub returns : goal.returns
returns c = λ word read letters short reads. text-read c.args.rank word read c.requires letters short reads
