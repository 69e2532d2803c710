mod DiskLemmas
mod Files
mod Heads
mod Planting
