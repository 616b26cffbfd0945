use Rattle.std.proofs.Common.{ℕ, List, [], ◌∷◌, get_or, ap, ◌∙◌, arith}
use Rattle.sets.specs.Bits.{in_bits}
use Rattle.semantics.proofs.Counts.{count_le}
use Rattle.sheets.specs.Model.{model_of}
use Rattle.judging.specs.Reporting.{Summarized}
use Rattle.judging.proofs.Summaries.{summarized_more, summary_found}
use Rattle.judging.proofs.work_buffer.WorkBuffer.summarize.Goals as goal

pub overflow_cast-self-in-loop-k : goal.overflow_cast-self-in-loop-k
overflow_cast-self-in-loop-k c = omega (arith, c.count-members.ensures, c.state_count-states.ensures.bound, count_le c.state_count-states.result (in_bits c.judge_row-rounds.new.set.bits))

pub loop-k-preserved : goal.loop-k-preserved
loop-k-preserved c = record {
  kept = c.judge_row-rounds.ensures.kept;
  summarized = λ f.
      let h = model_of c.args.sheet.now in
      let k = c.loop-k.k in
      let ss = c.judge_row-rounds.new.self.summaries.now in
      let before : Summarized h k ss = λ j l. ap (λ (s : List (List ℕ)). get_or s j []) c.judge_row-rounds.ensures.summaries ∙ c.loop-k.invariant.summarized f j l in
      summarized_more h ss k (c.from.result ∷ c.judge_row-rounds.result ∷ c.count-members.result ∷ []) (omega arith) before
      (summary_found h k (in_bits c.judge_row-rounds.new.set.bits) c.from.result c.judge_row-rounds.result c.count-members.result c.state_count-states.result c.holds_at_starts-verdict.result
      (c.judge_row-rounds.ensures.set f) c.from.ensures c.holds_at_starts-verdict.ensures (c.judge_row-rounds.ensures.rounds f) c.count-members.ensures c.state_count-states.ensures.value);
}
