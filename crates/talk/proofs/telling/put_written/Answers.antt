use borrow.Author.Rules.{rules}
use native.Mathlib.Omega.{arith}
use lib.ListN.{length}
use Rattle.rules.specs.Text.{text}
use Rattle.rules.specs.Answers.{wrote}
use Rattle.rules.specs.Words.{words_of}
use Rattle.hexadecimal.proofs.Printing.{blank_size}
use Rattle.answer.proofs.Words.{counts_wrote, puts_converted}
use Rattle.hci.proofs.Calls.{wrote_few}
use Rattle.talk.proofs.Printing.{written_line_lem}
use Rattle.talk.proofs.telling.put_written.Goals as goal

pub map-answer-requires : goal.map-answer-requires
map-answer-requires c =
    let w = c.write_message in
    λ n e _ _. omega (
      arith,
      wrote_few c.args.message c.blank.new.bytes w.new.buffer w.result w.ensures n e,
    )

pub returns : goal.returns
unfolding words_of
returns c =
    let m = c.args.message in
    let n = length c.args.bytes.now in
    let w = c.write_message in
    let b = c.put_buffer-b.ensures in
    let p =
    puts_converted wrote (text "wrote") counts_wrote w.result c.map-answer.result _
    (λ x r q. search rules) c.map-answer.ensures.cases c.put_counted-a.ensures
    in
    record {
      puts = written_line_lem m c.blank.new.bytes w.new.buffer w.result n c.blank.ensures w.ensures
          p.puts b.puts c.put_word.ensures;
      room = omega (
        arith,
        p.room,
        b.room,
        c.put_word.ensures.ends,
        c.requires.1,
        w.auto,
        blank_size n c.blank.ensures,
      );
    }
