-- `text::put_decimal` meets its contract. The measure is the number: a tenth of it is put first.
use Rattle.text.proofs.writing.+put_decimal.Given as goal

abbrev pub decreases-put_decimal : goal.decreases-put_decimal
decreases-put_decimal l = l.n
