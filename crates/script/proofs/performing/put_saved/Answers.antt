use borrow.Author.Rules.{rules}
use mathlib.Core.Path.{ap}
use native.Mathlib.Omega.{arith}
use lib.ListN.{length}
use Rattle.rules.specs.Text.{text}
use Rattle.rules.specs.Answers.{saved, of_saving}
use Rattle.rules.specs.Words.{words_of}
use Rattle.answer.proofs.Words.{counts_saved, puts_converted}
use Rattle.hexadecimal.proofs.Printing.{blank_size}
use Rattle.image.proofs.Calls.{saved_fits}
use Rattle.script.proofs.Saved.{saved_line_lem, save_length}
use Rattle.script.proofs.performing.put_saved.Goals as goal

pub map-answer-requires : goal.map-answer-requires
map-answer-requires c =
    let v = c.save in
    λ n e _ _. omega (
      arith,
      saved_fits c.args.s c.requires.0 c.blank.new.bytes v.new.buffer
          v.result v.ensures n (ap of_saving e),
    )

pub returns : goal.returns
unfolding words_of
returns c =
    let s = c.args.s in
    let n = length c.args.bytes.now in
    let v = c.save in
    let b = c.put_buffer-b.ensures in
    let p =
    puts_converted saved (text "saved") counts_saved v.result c.map-answer.result _
    (λ x r q. search rules) c.map-answer.ensures.cases c.put_counted-a.ensures
    in
    let l = save_length s c.blank.new.bytes v.new.buffer v.result v.ensures in
    record {
      puts = saved_line_lem s c.blank.new.bytes v.new.buffer v.result n c.blank.ensures v.ensures
          p.puts b.puts c.put_word.ensures;
      room = omega (
        arith,
        p.room,
        b.room,
        c.put_word.ensures.ends,
        c.requires.2,
        l,
        blank_size n c.blank.ensures,
      );
    }
