use Rattle.std.proofs.Common.{map}
use Rattle.pp_words.proofs.Asked.{read_in_parts, read_plainly}
use Rattle.pp_words.proofs.words.job.Goals as goal

pub returns-in-Some-clause-ok : goal.returns-in-Some-clause-ok
returns-in-Some-clause-ok g c =
    (read_in_parts c.segments_job.result (map g.S.AsStr.text c.args.words.now) _ _ c.in-Some.ensures.some
    c.in-Some.ensures.front c.in-Some.ensures.files
    (record {
      ok = c.segments_job.ensures.ok;
      err = c.segments_job.ensures.err;
      told = c.segments_job.ensures.told;
    })).ok

pub returns-in-Some-clause-err : goal.returns-in-Some-clause-err
returns-in-Some-clause-err g c =
    (read_in_parts c.segments_job.result (map g.S.AsStr.text c.args.words.now) _ _ c.in-Some.ensures.some
    c.in-Some.ensures.front c.in-Some.ensures.files
    (record {
      ok = c.segments_job.ensures.ok;
      err = c.segments_job.ensures.err;
      told = c.segments_job.ensures.told;
    })).err

pub returns-in-Some-clause-told : goal.returns-in-Some-clause-told
returns-in-Some-clause-told g c =
    (read_in_parts c.segments_job.result (map g.S.AsStr.text c.args.words.now) _ _ c.in-Some.ensures.some
    c.in-Some.ensures.front c.in-Some.ensures.files
    (record {
      ok = c.segments_job.ensures.ok;
      err = c.segments_job.ensures.err;
      told = c.segments_job.ensures.told;
    })).told

pub returns-in-None-clause-ok : goal.returns-in-None-clause-ok
returns-in-None-clause-ok g c =
    (read_plainly c.plain_job.result (map g.S.AsStr.text c.args.words.now) c.in-None.ensures.none
    (record { ok = c.plain_job.ensures.ok; err = c.plain_job.ensures.err; told = c.plain_job.ensures.told })).ok

pub returns-in-None-clause-err : goal.returns-in-None-clause-err
returns-in-None-clause-err g c =
    (read_plainly c.plain_job.result (map g.S.AsStr.text c.args.words.now) c.in-None.ensures.none
    (record { ok = c.plain_job.ensures.ok; err = c.plain_job.ensures.err; told = c.plain_job.ensures.told })).err

pub returns-in-None-clause-told : goal.returns-in-None-clause-told
returns-in-None-clause-told g c =
    (read_plainly c.plain_job.result (map g.S.AsStr.text c.args.words.now) c.in-None.ensures.none
    (record { ok = c.plain_job.ensures.ok; err = c.plain_job.ensures.err; told = c.plain_job.ensures.told })).told
