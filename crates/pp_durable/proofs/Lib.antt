mod AheadLemmas
mod CrashLemmas
mod HonestLemmas
mod NoticedLemmas
mod SumLemmas
