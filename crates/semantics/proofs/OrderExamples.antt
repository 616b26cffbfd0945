-- The table of texts, computed.
use Rattle.std.proofs.Common.{refl}
use Rattle.std.specs.Fmt.{digits}
use Rattle.semantics.specs.LineReading.{numbers_in, earlier_at}
use Rattle.semantics.specs.OrderExamples.{OrderExamples}
use Rattle.semantics.specs.QueryReading.{lines_read, query_read}
use Rattle.semantics.specs.SheetReading.{each_due, while_in, sections_read, sheet_read}
use Rattle.semantics.specs.SheetText.{sheet_text}
use Rattle.semantics.specs.Worked.{sheet7}
use Rattle.semantics.specs.Written.{texts_below}

pub order_examples : OrderExamples
unfolding digits sheet_text texts_below sheet7 sheet_read sections_read each_due while_in query_read lines_read numbers_in earlier_at
order_examples = record { changed_lines = refl; changed_texts = refl; other_sheets = refl; of_queries = refl }
