-- The sample is computed.
use Rattle.std.proofs.Common.{refl}
use Rattle.std.specs.Str.{chars}
use Rattle.unicode.specs.GeneralCategory.{general_category}
use Rattle.unicode.specs.Rows.{value_in}
use Rattle.ucd_category.specs.GeneralCategoryRows.{general_category_rows}
use Rattle.go_path_core.specs.text_core.Text.{uppercase}
use Rattle.go_report_core.specs.answer.Sample.{AnswerSampleIsRight}

pub sample_is_right : AnswerSampleIsRight
unfolding uppercase general_category value_in general_category_rows chars
sample_is_right = record { shown = refl; second = refl; first = refl }
