use Rattle.sixel_emulator.proofs.CourseLemmas.{course_push}
use Rattle.sixel_emulator.proofs.course.Course.after.Goals as goal

pub returns : goal.returns
returns c = λ m events n e at is s.
    rw c.next.ensures (course_push m events n e c.args.self c.args.is_unsaid c.args.reads at is s)
