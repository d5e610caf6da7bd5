-- `read_ports` meets its contract, word by word.
use Rattle.std.proofs.Common.{◌≡◌, ◌+◌, ◌-◌, ◌<◌, arith, take, drop, set, sym, ◌∙◌}
use Rattle.std.proofs.Math.Seq.{set_out}
use Rattle.words.specs.Words.{words}
use Rattle.words.specs.laws.Words.{word_there, word_missing, word_within, word_order}
use Rattle.words.specs.laws.Decimal.{value-same}
use Rattle.plan_text.specs.laws.Ports.{PortsSoFar, ports_none, ports_end, ports_bad, ports_more}
use Rattle.plan_text.proofs.ports.read_ports.Goals as goal
use Rattle.plan_text.proofs.ports.read_ports.Goals.{then-count-route, else-count-route}

pub loop-word-init : goal.loop-word-init
loop-word-init c =
    record {
      within = c.requires.0;
      few = omega arith;
      so_far = ports_none (words (drop c.args.at c.args.line.now)) c.args.route.now;
    }

pub returns-then-word : goal.returns-then-word
returns-then-word c =
    let l = c.loop-word in
    ports_end (words (drop c.args.at c.args.line.now)) l.route l.count (words (drop l.next c.args.line.now)) l.invariant.so_far
    (word_missing c.args.line.now l.next c.word_at-word.ensures c.if-word.true)

pub slice_bounds-decimal-end : goal.slice_bounds-decimal-end
slice_bounds-decimal-end c = omega (arith, word_within c.args.line.now c.loop-word.next c.word_at-word.ensures c.loop-word.invariant.within)

pub returns-in_err-port : goal.returns-in_err-port
returns-in_err-port c =
    let l = c.loop-word in
    let line = c.args.line.now in
    let word = c.word_at-word in
    rw c.from_residual.ensures
    (ports_bad (words (drop c.args.at line)) l.route l.count (words (drop l.next line)) l.invariant.so_far
    (take (word.result.end - word.result.start) (drop word.result.start line)) (words (drop word.result.end line)) (word_there line l.next word.ensures c.if-word.false)
    (sym (c.in_err-port.ensures ∙ value-same _)))

pub loop-word-preserved : goal.loop-word-preserved
loop-word-preserved c =
    let l = c.loop-word in
    let line = c.args.line.now in
    let word = c.word_at-word in
    let onward : l.next < word.result.end = omega (arith, (word_order line l.next word.ensures).0, c.if-word.false) in
    let read : PortsSoFar (words (drop c.args.at line)) (set l.route l.count c.in_ok-port.port) (l.count + 1) (words (drop word.result.end line)) =
    ports_more (words (drop c.args.at line)) l.route l.count (words (drop l.next line)) l.invariant.so_far
    (take (word.result.end - word.result.start) (drop word.result.start line)) (words (drop word.result.end line)) (word_there line l.next word.ensures c.if-word.false)
    (omega (arith, c.requires.1)) (sym (c.in_ok-port.ensures ∙ value-same _)) in
    let stored : c.if-count-route.route ≡ set l.route l.count c.in_ok-port.port =
    elim c.if-count-route.branch [
      | then-count-route w ↦ w.route-is
      | else-count-route w ↦ w.route-is ∙ sym (set_out l.route l.count c.in_ok-port.port w.if-count-route.false)
    ] in
    record {
      within = word_within line l.next word.ensures l.invariant.within;
      few = omega (arith, l.invariant.few, onward);
      so_far = rw stored read;
    }
