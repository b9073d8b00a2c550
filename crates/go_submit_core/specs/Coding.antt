-- Published batches as they are stored.
use Rattle.std.specs.Prelude.{List}
use Rattle.std.specs.Coded.{Coded, coded_list}
use Rattle.go_submit_core.specs.declared.published.PublishedBatch.{PublishedBatch}
use Rattle.go_submit_core.specs.contracts.published.PublishedBatch as published_batch

abbrev pub coded_batch : Coded PublishedBatch
coded_batch = published_batch.the_row.coded

abbrev pub coded_batches : Coded (List PublishedBatch)
coded_batches = coded_list coded_batch
