mod Steps
mod Law
