use Rattle.std.proofs.Common.{subst, ◌≤◌}
use Rattle.trace_reader.specs.declared.plain.Word.TheVariants.{Get, Ins, Del, Put, Mov}
use Rattle.trace_reader.specs.Plain.{format_of_word}
use Rattle.trace_reader.proofs.Written.{del_read, get_read, ins_read, mov_read, put_read, word_first}
use Rattle.trace_reader.proofs.plain.plain_op.Goals as goal

pub returns-in_ok-key-in-Ins : goal.returns-in_ok-key-in-Ins
returns-in_ok-key-in-Ins c =
    ins_read c.args.format c.args.bytes.now c.in_ok-word.numbers.now c.in_ok-key-in-Ins.key c.in_ok-key-in-Ins.value c.in_ok-key-in-Ins.rest.now c.requires.0
    (word_first c.args.bytes.now c.in_ok-word.word.now c.in_ok-word.numbers.now c.in_ok-word_of.field-0 Ins c.in_ok-word.ensures.cases c.in_ok-word_of.ensures.text c.in-Ins.is)
    c.in_ok-key-in-Ins.ensures

pub returns-in_ok-key-in-Get : goal.returns-in_ok-key-in-Get
returns-in_ok-key-in-Get c =
    get_read c.args.format c.args.bytes.now c.in_ok-word.numbers.now c.in_ok-key-in-Get.key c.in_ok-key-in-Get.rest.now c.requires.0
    (word_first c.args.bytes.now c.in_ok-word.word.now c.in_ok-word.numbers.now c.in_ok-word_of.field-0 Get c.in_ok-word.ensures.cases c.in_ok-word_of.ensures.text c.in-Get.is)
    c.in_ok-key-in-Get.ensures

pub returns-in_ok-key-in-Del : goal.returns-in_ok-key-in-Del
returns-in_ok-key-in-Del c =
    del_read c.args.format c.args.bytes.now c.in_ok-word.numbers.now c.in_ok-key-in-Del.key c.in_ok-key-in-Del.rest.now c.requires.0
    (word_first c.args.bytes.now c.in_ok-word.word.now c.in_ok-word.numbers.now c.in_ok-word_of.field-0 Del c.in_ok-word.ensures.cases c.in_ok-word_of.ensures.text c.in-Del.is)
    c.in_ok-key-in-Del.ensures

pub returns-in_ok-key-in-Put : goal.returns-in_ok-key-in-Put
returns-in_ok-key-in-Put c =
    put_read c.args.format c.args.bytes.now c.in_ok-word.numbers.now c.in_ok-key-in-Put.key c.in_ok-key-in-Put.value c.in_ok-key-in-Put.rest.now (subst (λ word. format_of_word word ≤ c.args.format) c.in-Put.is c.in_ok-word_of.ensures.format)
    (word_first c.args.bytes.now c.in_ok-word.word.now c.in_ok-word.numbers.now c.in_ok-word_of.field-0 Put c.in_ok-word.ensures.cases c.in_ok-word_of.ensures.text c.in-Put.is)
    c.in_ok-key-in-Put.ensures

pub returns-in_ok-from-in-Mov : goal.returns-in_ok-from-in-Mov
returns-in_ok-from-in-Mov c =
    mov_read c.args.format c.args.bytes.now c.in_ok-word.numbers.now c.in_ok-from-in-Mov.from c.in_ok-from-in-Mov.to c.in_ok-from-in-Mov.rest.now (subst (λ word. format_of_word word ≤ c.args.format) c.in-Mov.is c.in_ok-word_of.ensures.format)
    (word_first c.args.bytes.now c.in_ok-word.word.now c.in_ok-word.numbers.now c.in_ok-word_of.field-0 Mov c.in_ok-word.ensures.cases c.in_ok-word_of.ensures.text c.in-Mov.is)
    c.in_ok-from-in-Mov.ensures
