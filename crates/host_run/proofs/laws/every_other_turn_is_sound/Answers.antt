use Rattle.host_run.proofs.OtherTurns.{exception_exit, exception_keeps, exception_quiet, host_sound, int31_keeps_turn, int31_quiet}
use Rattle.host_run.proofs.OtherTurns.{interrupt_exit, interrupt_keeps, interrupt_quiet, reached}
use Rattle.host_run.proofs.laws.every_other_turn_is_sound.Goals.{returns as goal}

pub returns : goal
returns c = record {
  int31 = λ w r carry s keys. host_sound w _ s (int31_keeps_turn w r carry (reached w s keys));
  exception = λ w f s keys. host_sound w _ s (exception_keeps w f (reached w s keys));
  interrupt = λ w n s keys. host_sound w _ s (interrupt_keeps w n (reached w s keys));
  int31_alone = int31_quiet;
  exception_alone = exception_quiet;
  interrupt_alone = interrupt_quiet;
  exception_exit = exception_exit;
  interrupt_exit = interrupt_exit;
}
