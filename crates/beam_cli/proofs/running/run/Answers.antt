use Rattle.std.proofs.Common.{ℕ, List, Option, Some, rules, subst}
use Rattle.bk_port.specs.Causes.{Rose}
use Rattle.beam_cli.specs.Words.{Asked, named}
use Rattle.beam_cli.specs.Asking.{asked}
use Rattle.beam_cli.specs.Answer.{answer, asked_answer, answer_or_usage}
use Rattle.beam_cli.specs.Outcome.{IsMessage, IsOutput, IsSaid, IsStatus}
use Rattle.beam_cli.specs.Stopping.{status_of}
use Rattle.beam_cli.proofs.Accepted.{accepts}
use Rattle.beam_cli.proofs.Messages.{message_at}
use Rattle.beam_cli.proofs.RoundTrips.{assembles, lists}
use Rattle.beam_cli.proofs.running.run.Goals as goal

pub returns-clause-message : goal.returns-clause-message
returns-clause-message g c =
    let holds : List ℕ → Option (List ℕ) = g.H.Host.holds c.args.host.now in
    let Said : List ℕ → Type 0 = IsSaid g.E.Sink.written g.E.Sink.faults c.args.err.now c.say_stop.new.err in
    let Faulty : List ℕ → Type 0 = λ name. Rose (g.H.Host.faults c.args.host.now name) (g.H.Host.faults c.make.new.host name) in
    let asks : Asked = asked c.in-Some.request in
    rw c.status-in-Err.ensures (subst (λ (o : Option Asked). IsMessage (status_of c.in-Err.stop) (answer_or_usage holds o) Said Faulty (named o)) c.in-Some.ensures.asked
    (message_at c.in-Err.stop (asked_answer holds asks) Said Faulty (named (Some asks)) c.in-Err.ensures.reason c.say_stop.ensures))

pub returns-in_default-clause-lists : goal.returns-in_default-clause-lists
returns-in_default-clause-lists g c name bytes v asked_for held fits is = (c.listings_are_assembled.ensures.listable bytes v fits is, λ refused. absurd cc, λ done. absurd cc)

pub returns-in-Ok-clause-lists : goal.returns-in-Ok-clause-lists
returns-in-Ok-clause-lists g c name bytes v asked_for held fits is = (c.listings_are_assembled.ensures.listable bytes v fits is, λ refused. absurd cc, λ done. absurd cc)

pub returns-in-Ok-emit-clause-assembles : goal.returns-in-Ok-emit-clause-assembles
returns-in-Ok-emit-clause-assembles g c =
    let holds : List ℕ → Option (List ℕ) = g.H.Host.holds c.args.host.now in
    let says : IsStatus c.status.result (answer holds c.args.words.now) = search rules in
    let out : IsOutput c.status.result (g.O.Sink.written c.args.out.now) (g.O.Sink.written c.emit.new.sink) (answer holds c.args.words.now) = search rules in
    assembles c.listings_are_assembled.ensures.asm holds c.args.words.now c.status.result (g.O.Sink.written c.args.out.now) (g.O.Sink.written c.emit.new.sink) says out

pub returns-in-Ok-emit-clause-lists : goal.returns-in-Ok-emit-clause-lists
returns-in-Ok-emit-clause-lists g c =
    let holds : List ℕ → Option (List ℕ) = g.H.Host.holds c.args.host.now in
    let says : IsStatus c.status.result (answer holds c.args.words.now) = search rules in
    let out : IsOutput c.status.result (g.O.Sink.written c.args.out.now) (g.O.Sink.written c.emit.new.sink) (answer holds c.args.words.now) = search rules in
    let l = c.listings_are_assembled.ensures in
    lists (λ bytes v fits is. (l.output bytes v fits is, l.listable bytes v fits is, l.listing bytes v fits is)) holds c.args.words.now c.status.result (g.O.Sink.written c.args.out.now) (g.O.Sink.written c.emit.new.sink) says out

pub returns-clause-assembles : goal.returns-clause-assembles
returns-clause-assembles g c =
    let holds : List ℕ → Option (List ℕ) = g.H.Host.holds c.args.host.now in
    let says : IsStatus c.status-in-Err.result (answer holds c.args.words.now) = search rules in
    let out : IsOutput c.status-in-Err.result (g.O.Sink.written c.args.out.now) (g.O.Sink.written c.args.out.now) (answer holds c.args.words.now) = search rules in
    assembles c.listings_are_assembled.ensures.asm holds c.args.words.now c.status-in-Err.result (g.O.Sink.written c.args.out.now) (g.O.Sink.written c.args.out.now) says out

pub returns-clause-lists : goal.returns-clause-lists
returns-clause-lists g c =
    let holds : List ℕ → Option (List ℕ) = g.H.Host.holds c.args.host.now in
    let says : IsStatus c.status-in-Err.result (answer holds c.args.words.now) = search rules in
    let out : IsOutput c.status-in-Err.result (g.O.Sink.written c.args.out.now) (g.O.Sink.written c.args.out.now) (answer holds c.args.words.now) = search rules in
    let l = c.listings_are_assembled.ensures in
    lists (λ bytes v fits is. (l.output bytes v fits is, l.listable bytes v fits is, l.listing bytes v fits is)) holds c.args.words.now c.status-in-Err.result (g.O.Sink.written c.args.out.now) (g.O.Sink.written c.args.out.now) says out

pub returns-in-Ok-emit-clause-accepts : goal.returns-in-Ok-emit-clause-accepts
returns-in-Ok-emit-clause-accepts g c =
    let holds : List ℕ → Option (List ℕ) = g.H.Host.holds c.args.host.now in
    let says : IsStatus c.status.result (answer holds c.args.words.now) = search rules in
    accepts c.accepted_files_are_safe.ensures holds c.args.words.now c.status.result says

pub returns-clause-accepts : goal.returns-clause-accepts
returns-clause-accepts g c =
    let holds : List ℕ → Option (List ℕ) = g.H.Host.holds c.args.host.now in
    let says : IsStatus c.status-in-Err.result (answer holds c.args.words.now) = search rules in
    accepts c.accepted_files_are_safe.ensures holds c.args.words.now c.status-in-Err.result says
