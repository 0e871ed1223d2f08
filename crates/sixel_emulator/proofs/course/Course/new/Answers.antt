use Rattle.sixel_emulator.proofs.CourseLemmas.{course_start}
use Rattle.sixel_emulator.proofs.course.Course.new.Goals as goal

pub returns : goal.returns
returns c = course_start
