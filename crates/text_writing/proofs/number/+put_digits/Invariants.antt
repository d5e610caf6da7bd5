-- The measure of `put_digits`: how many digits it may write at most. The digits in front are written by its call of itself.
use Rattle.text_writing.proofs.number.+put_digits.Given as goal

abbrev pub decreases-put_digits : goal.decreases-put_digits
decreases-put_digits l = l.most
