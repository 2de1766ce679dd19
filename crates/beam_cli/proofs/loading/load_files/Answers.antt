use Rattle.std.proofs.Common.{◌≡◌, ◌+◌, ℕ, List, Option, refl, subst, ◌∙◌, arith}
use Rattle.std.specs.Prelude.{IfSome}
use Rattle.std.proofs.lemmas.Result.{err_from_is_err_and}
use Rattle.bk_port.specs.Causes.{Rose}
use Rattle.bk_port.specs.Reading.{IsLeftAfter}
use Rattle.bk_port.specs.declared.reading.TheConstants.{MOST_BYTES}
use Rattle.beam_cli.proofs.Loads.{left_of_all, left_step, loaded_step, reason_since, rose_since, stops_all}
use Rattle.beam_cli.proofs.loading.load_files.Goals as goal

pub returns-in_err-bytes-clause-reason : goal.returns-in_err-bytes-clause-reason
returns-in_err-bytes-clause-reason g c =
    let p = err_from_is_err_and c.from_residual.result c.from_residual.ensures.1 in
    let name = c.name-item.result in
    let faults : List ℕ → ℕ = g.H.Host.faults c.args.host.now in
    let now : List ℕ → ℕ = g.H.Host.faults c.load_file.new.host in
    rw (p.1, p.2)
    (stops_all (g.H.Host.holds c.args.host.now) (λ n. Rose (faults n) (now n)) c.args.names.now c.names.files.items c.names.name-index name c.in_err-bytes.field-0.0 c.names-test.true c.name-item.is c.names.invariant.loaded
    (reason_since (g.H.Host.holds c.names.host name) (g.H.Host.holds c.args.host.now name) (Rose (g.H.Host.faults c.names.host name) (now name)) (Rose (faults name) (now name)) name c.in_err-bytes.field-0.0
    (c.names.invariant.holds name) (rose_since (faults name) (g.H.Host.faults c.names.host name) (now name) (c.names.invariant.later name)) c.in_err-bytes.ensures.reason))

pub returns-in_err-bytes-clause-left : goal.returns-in_err-bytes-clause-left
returns-in_err-bytes-clause-left g c =
    let name = c.name-item.result in
    let left : IsLeftAfter (MOST_BYTES + 1) (g.H.Host.holds c.args.host.now name) (g.H.Host.left c.names.host) (g.H.Host.left c.load_file.new.host) =
    subst (λ (o : Option (List ℕ)). IsLeftAfter (MOST_BYTES + 1) o (g.H.Host.left c.names.host) (g.H.Host.left c.load_file.new.host)) (c.names.invariant.holds name) c.in_err-bytes.ensures.left in
    left_of_all (g.H.Host.holds c.args.host.now) c.args.names.now (c.names.name-index + 1) (g.H.Host.left c.args.host.now) (g.H.Host.left c.load_file.new.host)
    (left_step (g.H.Host.holds c.args.host.now) c.args.names.now c.names.name-index name (g.H.Host.left c.args.host.now) (g.H.Host.left c.names.host) (g.H.Host.left c.load_file.new.host) c.names-test.true c.name-item.is c.names.invariant.left left)

pub returns-in_err-push-clause-left : goal.returns-in_err-push-clause-left
returns-in_err-push-clause-left g c =
    let name = c.name-item.result in
    let left : IsLeftAfter (MOST_BYTES + 1) (g.H.Host.holds c.args.host.now name) (g.H.Host.left c.names.host) (g.H.Host.left c.load_file.new.host) =
    subst (λ (o : Option (List ℕ)). IsLeftAfter (MOST_BYTES + 1) o (g.H.Host.left c.names.host) (g.H.Host.left c.load_file.new.host)) (c.names.invariant.holds name) c.in_ok-bytes.ensures.left in
    left_of_all (g.H.Host.holds c.args.host.now) c.args.names.now (c.names.name-index + 1) (g.H.Host.left c.args.host.now) (g.H.Host.left c.load_file.new.host)
    (left_step (g.H.Host.holds c.args.host.now) c.args.names.now c.names.name-index name (g.H.Host.left c.args.host.now) (g.H.Host.left c.names.host) (g.H.Host.left c.load_file.new.host) c.names-test.true c.name-item.is c.names.invariant.left left)

pub names-preserved : goal.names-preserved
names-preserved g c =
    let name = c.name-item.result in
    let left : IsLeftAfter (MOST_BYTES + 1) (g.H.Host.holds c.args.host.now name) (g.H.Host.left c.names.host) (g.H.Host.left c.load_file.new.host) =
    subst (λ (o : Option (List ℕ)). IsLeftAfter (MOST_BYTES + 1) o (g.H.Host.left c.names.host) (g.H.Host.left c.load_file.new.host)) (c.names.invariant.holds name) c.in_ok-bytes.ensures.left in
    record {
      loaded =
          rw c.in_ok-push.ensures.items
          (loaded_step (g.H.Host.holds c.args.host.now) c.args.names.now c.names.files.items c.names.name-index name _ c.names-test.true c.name-item.is c.names.invariant.loaded
          (record {
            name_is = refl;
            whole = subst (λ (o : Option (List ℕ)). IfSome o (λ all. c.in_ok-bytes.bytes.items ≡ all)) (c.names.invariant.holds name) c.in_ok-bytes.ensures.whole;
            size = c.in_ok-bytes.ensures.size;
          }));
      holds = λ n. c.in_ok-bytes.ensures.holds n ∙ c.names.invariant.holds n;
      later = λ n. omega (arith, c.names.invariant.later n, c.in_ok-bytes.ensures.later n);
      count = search arith;
      left = left_step (g.H.Host.holds c.args.host.now) c.args.names.now c.names.name-index name (g.H.Host.left c.args.host.now) (g.H.Host.left c.names.host) (g.H.Host.left c.load_file.new.host) c.names-test.true c.name-item.is c.names.invariant.left left;
    }
