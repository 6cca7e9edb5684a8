mod Complete
mod Files
mod RunAnswers
mod Ranges
