-- The frames worked on the sheet, computed. Assumes nothing.
use mathlib.Core.Path.{refl}
use Rattle.overhead.specs.Overhead.{three_of, field_of, overhead_of, level_field, far_block}
use Rattle.filter.specs.Since.{bits_since, row, on_by}
use Rattle.filter.specs.Stood.{values_since}
use Rattle.alignment.specs.Alignment.{frames_of}
use Rattle.alignment.specs.Since.{since_row}
use Rattle.alignment.specs.Framed.{in_frame_by}
use Rattle.alignment.specs.Numbered.{places, place_after}
use Rattle.layer.specs.Traced.{down, ttis, accepted_by, turns_since, tim_by}
use Rattle.page.specs.Page.{each, frames_back, in_second, yes, any, total}
use Rattle.sheet.specs.Sheet.{nears}
use Rattle.sheet.specs.Worked.{SheetWorked}

pub sheet_worked : SheetWorked
unfolding three_of field_of overhead_of level_field far_block bits_since row on_by values_since frames_of since_row in_frame_by places place_after down ttis accepted_by turns_since tim_by each frames_back in_second yes any total nears
sheet_worked = record { second = refl; ltc = refl }
